-- Bytes that are taken from a source, and stand after those that were at hand.
use Rattle.std.proofs.Common.{◌≡◌, ℕ, List, [], ◌∷◌, ◌++◌}
use Rattle.std.proofs.Common.{refl, sym, ◌∙◌, ap, subst, append_assoc}
use Rattle.std.proofs.lemmas.List.{append-nil}
use Rattle.std.specs.declared.option.Option.{Option}
use Rattle.std.specs.Io.KnownBytes.{prepend_known}
use Rattle.std.proofs.KnownBytes.{prepend_known-nil}
use Rattle.rv_base.proofs.Moved.{prepend_known-append}
use Rattle.schedule_replay.specs.NextLine.{Took}

-- in two goes
pub Took-trans : (before between after : Option (List ℕ)) (old mid new : List ℕ)
    → Took before between old mid → Took between after mid new → Took before after old new
Took-trans before between after old mid new first then = record {
  front = first.front ++ then.front;
  taken = first.taken ∙ (ap (prepend_known first.front) then.taken
      ∙ prepend_known-append first.front then.front after);
  same = sym (append_assoc old first.front then.front)
      ∙ (ap (λ bytes. bytes ++ then.front) first.same ∙ then.same);
}

-- no bytes
pub Took-none : (before after : Option (List ℕ)) (old : List ℕ) → after ≡ before
    → Took before after old old
Took-none before after old stays = record {
  front = [];
  taken = sym (prepend_known-nil before) ∙ ap (prepend_known []) (sym stays);
  same = append-nil old;
}

-- no bytes, where those at hand stay
pub Took-same : (known : Option (List ℕ)) (old new : List ℕ) → new ≡ old → Took known known old new
Took-same known old new same = subst (λ (bytes : List ℕ). Took known known old bytes) (sym same)
    (Took-none known known old refl)

-- behind further bytes
pub Took-behind : (before after : Option (List ℕ)) (more old new : List ℕ)
    → Took before after old new → Took before after (more ++ old) (more ++ new)
Took-behind before after more old new took = record {
  front = took.front;
  taken = took.taken;
  same = append_assoc more old took.front ∙ ap (λ bytes. more ++ bytes) took.same;
}

both-empty : (xs ys : List ℕ) → xs ++ ys ≡ [] → (xs ≡ []) × (ys ≡ [])
both-empty [] ys e = (refl, e)
both-empty (x ∷ xs) ys e = cc

-- where nothing is at hand afterwards, nothing was before, and nothing was taken
pub Took-nothing : (before after : Option (List ℕ)) (old new : List ℕ) → new ≡ []
    → Took before after old new → (old ≡ []) × (before ≡ after)
Took-nothing before after old new none took =
    let empty = both-empty old took.front (took.same ∙ none) in (
      empty.0,
      took.taken ∙ (ap (λ front. prepend_known front after) empty.1
          ∙ prepend_known-nil after),
    )
