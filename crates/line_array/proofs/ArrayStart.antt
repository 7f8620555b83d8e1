-- An array of machines at the start.
use Rattle.std.proofs.Common.{◌≡◌, ℕ, zero, suc, ◌≤◌, List, ◌∷◌, length, map, replicate, refl, sym}
use Rattle.std.proofs.Common.{ap, ap₂, ◌∙◌, subst}
use Rattle.std.proofs.lemmas.List.{length-replicate}
use Rattle.std.specs.List.{AllByRecursion}
use Rattle.rv_base.proofs.Lists.{AllByRecursion-replicate}
use Rattle.controller_table.specs.Sound.{Tabled, IsSound, protocol_of}
use Rattle.ordered_links.specs.Lists.{LinkPair, no_packets}
use Rattle.async_shape.specs.Config.{Config, start}
use Rattle.async_machine.specs.Standing.{Standing, setting_of}
use Rattle.line_array.specs.SharedLists.{SharedPair, no_entries}
use Rattle.line_array.specs.ArrayConfig.{array_start}
use Rattle.line_array.specs.InStep.{IsSharing}
use Rattle.line_array.specs.Noted.{Shared}
use Rattle.line_array.specs.Standing.{IsArray, array_config, ring_config, line_standing}
use Rattle.line_array.proofs.Sharing.{IsSharing-start}

-- what is given of so many of the same is so many of the same
map-replicate : {X Y : Type 0} (give : X → Y) (n : ℕ) (x : X)
    → map give (replicate n x) ≡ replicate n (give x)
map-replicate give zero x = refl
map-replicate give (suc n) x = ap (λ (rest : List _). give x ∷ rest) (map-replicate give n x)

-- a machine is what it stands by
pub line-is : (m : Standing (List LinkPair)) (table : Tabled) (k n : ℕ) (links : List LinkPair)
    → (m.table ≡ table) × (m.slots ≡ k) × (m.links ≡ links) → links ≡ replicate n no_packets
    → ring_config m ≡ start (protocol_of table) (length links)
    → m ≡ line_standing table k (start (protocol_of table) n)
line-is m table k n links parts empty starts =
    let count : length links ≡ n = ap length empty ∙ length-replicate n no_packets in
    ap₂ (λ (table : Tabled) (k : ℕ). line_standing table k (ring_config m)) parts.0 parts.1
    ∙ ap (line_standing table k)
    (starts ∙ ap (start (protocol_of table)) count)

module _ (table : Tabled) (k n lines : ℕ) (shared : Shared)
    (is : shared ≡ record { lines = lines; pairs = replicate n no_entries })
    (machines : List (Standing (List LinkPair)))
    (are : machines ≡ replicate lines (line_standing table k (start (protocol_of table) n))) where
  -- the configuration is that of the start
  pub array-starts : array_config machines shared.pairs ≡ array_start (protocol_of table) n lines
  array-starts =
      ap₂ (λ (lines : List Config) (pairs : List SharedPair).
      record { lines = lines; shared = pairs })
      (ap (map ring_config) are
      ∙ map-replicate ring_config lines (line_standing table k (start (protocol_of table) n)))
      (ap (λ (s : Shared). s.pairs) is)

  -- the machines are an array
  pub IsArray-start : IsSound table → 1 ≤ n → n ≤ 64 → 2 ≤ k → k ≤ 64 → 1 ≤ lines → lines ≤ 16
      → IsArray table k machines shared
  IsArray-start sound some few two most some_lines few_lines =
      let first = line_standing table k (start (protocol_of table) n) in
      let count : length machines ≡ lines = ap length are ∙ length-replicate lines first in
      record {
        sound = sound;
        some_lines = subst (λ (m : ℕ). 1 ≤ m) (sym count) some_lines;
        few_lines = subst (λ (m : ℕ). m ≤ 16) (sym count) few_lines;
        room = ap (λ (s : Shared). s.lines) is ∙ sym count;
        alike =
            subst (λ (ms : List (Standing (List LinkPair))).
            AllByRecursion (λ (m : Standing (List LinkPair)). (m.table ≡ table) × (m.slots ≡ k))
            ms) (sym are)
            (AllByRecursion-replicate
            (λ (m : Standing (List LinkPair)). (m.table ≡ table) × (m.slots ≡ k)) lines first
            (refl, refl));
        sharing =
            subst (IsSharing (setting_of table k)) (sym array-starts)
            (IsSharing-start (setting_of table k) n lines sound.proper some few two most);
      }
