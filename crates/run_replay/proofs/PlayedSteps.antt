-- The block of a step, as it is put together, and where the controllers start.
use Rattle.std.proofs.Common.{◌≡◌, ℕ, List, [], ◌++◌, length, replicate, Option, codes}
use Rattle.std.proofs.Common.{Result, unwrap_or, refl, sym, ap, subst, ◌∙◌, append_assoc}
use Rattle.std.proofs.lemmas.List.{length-replicate}
use Rattle.proto_model.specs.Tokens.{Text}
use Rattle.proto_model.specs.Continued.{Continues}
use Rattle.proto_model.specs.Numbered.{NumberedProtocol, CheckedProtocol}
use Rattle.proto_model.specs.declared.mode.Mode.{Mode}
use Rattle.proto_model.specs.declared.numbered.NumberedClaim.{NumberedClaim}
use Rattle.proto_model.specs.declared.numbered.Body.{Body}
use Rattle.controller_table.specs.Sound.{Tabled, table_in, protocol_of}
use Rattle.controller_table.proofs.Told.{home-bare, remote-bare}
use Rattle.ordered_links.specs.Link.{Link}
use Rattle.ordered_links.specs.Lists.{LinkPair, no_packets}
use Rattle.ordered_links.specs.declared.packet.Packet.{Packet}
use Rattle.async_shape.specs.Config.{Config, start}
use Rattle.async_shape.specs.Next.{next, displaced_sender}
use Rattle.async_shape.specs.Setting.{Setting}
use Rattle.async_shape.specs.declared.step.Step.{Step}
use Rattle.async_machine.specs.Effects.{IsStep}
use Rattle.async_machine.specs.Standing.{Standing, setting_of, config}
use Rattle.async_machine.specs.declared.stepped.Stepped.{Stepped}
use Rattle.async_machine.specs.declared.stepped.Stepped.TheVariants.{Moved, Refused}
use Rattle.async_machine.specs.StepText.{step_text}
use Rattle.abstraction_map.specs.Abstraction.{abstraction}
use Rattle.abstraction_map.specs.Told as spec
use Rattle.abstraction_map.specs.declared.told.Told.{Told}
use Rattle.run_replay.specs.ToldWords.{told_words}
use Rattle.schedule_replay.proofs.Chained.{grown}
use Rattle.run_replay.specs.PlayedStep.{Leads, IsTaken, unclaimed}
use Rattle.run_replay.specs.RunTrace.{Running, running_after, step_block, lines_if, run_start}

-- these claims, and the controllers in this configuration
abbrev pub running_so : List NumberedClaim → Setting → Config → Running
running_so claims setting c = record { claims = claims; setting = setting; config = c }

-- ---- the block of a step

words-joined : (text colon told line lines : Text)
    → (text ++ (colon ++ (told ++ line))) ++ lines
    ≡ text ++ (colon ++ (told ++ (line ++ lines)))
words-joined text colon told line lines = simp append_assoc refl

module _ (setting : Setting) (c : Config) (s : Step) where
  -- the words of a step that is told so
  abbrev pub words_of : Told → Text
  words_of told =
      step_text s ++ (codes ": "
      ++ (told_words setting.protocol (abstraction setting.protocol c) told
      ++ codes "\n"))

  -- The words of a step and the lines that follow it, if it moved, are its block.
  block-joined : (told : Told) (displaced : Option ℕ) → told ≡ spec.told setting c s
      → displaced ≡ displaced_sender setting c s
      → words_of told ++ lines_if setting.protocol s displaced (next setting c s)
      ≡ step_block (running_so [] setting c) s
  block-joined told displaced is_told is_displaced =
      let after = next setting c s in
      let stands = abstraction setting.protocol c in
      let all : Told → Option ℕ → Text =
      λ t o. step_text s ++ (codes ": " ++ (told_words setting.protocol stands t
      ++ (codes "\n" ++ lines_if setting.protocol s o after))) in
      words-joined (step_text s) (codes ": ") (told_words setting.protocol stands told)
      (codes "\n") (lines_if setting.protocol s displaced after)
      ∙ ap (λ (t : Told). all t displaced) is_told
      ∙ ap (all (spec.told setting c s)) is_displaced

-- The words of a step of a machine were appended, and then its lines, if it moved: its block was.
pub block-played : {L E : Type 0} (lists : L → List LinkPair) (old new : Standing L) (s : Step)
    (told : Told) (displaced : Option ℕ) (stepped : Stepped) (r t u : Result (Unit {0}) E)
    (a b d : Text) → told ≡ spec.told (setting_of old.table old.slots) (config lists old) s
    → displaced ≡ displaced_sender (setting_of old.table old.slots) (config lists old) s
    → Leads lists s stepped old new → new.table ≡ old.table
    → Continues (words_of (setting_of old.table old.slots) (config lists old) s told) r a t b
    → ((before : Config) (after : Option Config) → IsStep stepped before (config lists new) after
    → Continues (lines_if (protocol_of new.table) s displaced after) t b u d)
    → Continues (step_block (unclaimed lists old) s) r a u d
block-played lists old new s told displaced stepped r t u a b d is_told is_displaced leads table
    words lines =
    let setting = setting_of old.table old.slots in
    let c = config lists old in
    let after = next setting c s in
    grown (words_of setting c s told) (lines_if setting.protocol s displaced after)
    (step_block (unclaimed lists old) s) r t u a b d
    (block-joined setting c s told displaced is_told is_displaced) words
    (subst (λ (of : Tabled). Continues (lines_if (protocol_of of) s displaced after) t b u d) table
    (lines c after leads))

-- ---- where a step leads

after-leads : (stepped : Stepped) (c d : Config) (after : Option Config) → IsStep stepped c d after
    → d ≡ unwrap_or after c
after-leads Moved c d after leads = sym (ap (λ (o : Option Config). unwrap_or o c) leads)
after-leads Refused c d after leads =
    leads.1 ∙ sym (ap (λ (o : Option Config). unwrap_or o c) leads.0)

-- ---- the start

with-bodies : (protocol : NumberedProtocol) (home remote : Body) → home ≡ protocol.home
    → remote ≡ protocol.remote
    → record { name = protocol.name; messages = protocol.messages; home = home; remote = remote }
    ≡ protocol
with-bodies protocol home remote is_home is_remote = rw (is_home, is_remote) refl

-- the table of a protocol tells the protocol
pub protocol_of-table_in : (protocol : NumberedProtocol) (mode : Mode)
    → protocol_of (table_in protocol mode) ≡ protocol
protocol_of-table_in protocol mode =
    with-bodies protocol _ _ (home-bare protocol mode) (remote-bare protocol mode)

same-setting : (table of : Tabled) (slots k : ℕ) (protocol : NumberedProtocol) → table ≡ of
    → slots ≡ k → protocol_of of ≡ protocol
    → setting_of table slots ≡ record { protocol = protocol; mode = of.mode; slots = k }
same-setting table of slots k protocol is_table is_slots tells =
    ap (λ (t : Tabled). setting_of t slots) is_table
    ∙ ap (setting_of of) is_slots
    ∙ ap (λ (p : NumberedProtocol). record { protocol = p; mode = of.mode; slots = k }) tells

same-running : (claims claims_at : List NumberedClaim) (setting setting_at : Setting)
    (c c_at : Config) → claims ≡ claims_at → setting ≡ setting_at → c ≡ c_at
    → running_so claims setting c ≡ running_so claims_at setting_at c_at
same-running claims claims_at setting setting_at c c_at is_claims is_setting is_config =
    rw (is_claims, is_setting, is_config) refl

-- A machine that took a step, or refused it, stands where the step leads.
pub taken-leads : {L : Type 0} (lists : L → List LinkPair) (put_effect : L → Link → Packet → L → Type 0)
    (take_effect : L → Link → Option Packet → L → Type 0) (claims : List NumberedClaim)
    (old : Standing L) (s : Step) (new : Standing L)
    → IsTaken lists put_effect take_effect old s new
    → running_so claims (setting_of new.table new.slots) (config lists new)
    ≡ running_after
    (running_so claims (setting_of old.table old.slots) (config lists old)) s
taken-leads lists put_effect take_effect claims old s new took =
    let setting = setting_of old.table old.slots in
    let c = config lists old in
    same-running claims claims (setting_of new.table new.slots) setting (config lists new)
    (unwrap_or (next setting c s) c) refl
    (ap (λ (t : Tabled). setting_of t new.slots) took.table ∙ ap (setting_of old.table) took.slots)
    (after-leads took.stepped c (config lists new) (next setting c s) took.leads)

-- a machine over such links and this table, at the start, and the claims
pub starts-so : {L : Type 0} (lists : L → List LinkPair) (checked : CheckedProtocol)
    (table : Tabled)
    (machine : Standing L) (links : L) (claims : List NumberedClaim) (n k : ℕ)
    → claims ≡ checked.claims → table ≡ table_in checked.protocol table.mode
    → lists links ≡ replicate n no_packets
    → machine.table ≡ table → machine.slots ≡ k
    → config lists machine ≡ start (protocol_of table) (length (lists links))
    → running_so claims (setting_of machine.table machine.slots) (config lists machine)
    ≡ run_start checked table.mode n k
starts-so lists checked table machine links claims n k is_claims is_table are_links has_table
    has_slots
    starts =
    let told : protocol_of table ≡ checked.protocol =
    ap protocol_of is_table ∙ protocol_of-table_in checked.protocol table.mode in
    let count : length (lists links) ≡ n = ap length are_links ∙ length-replicate n no_packets in
    same-running claims checked.claims (setting_of machine.table machine.slots) _
    (config lists machine) (start checked.protocol n) is_claims
    (same-setting machine.table table machine.slots k checked.protocol has_table has_slots told)
    (starts ∙ ap (λ (p : NumberedProtocol). start p (length (lists links))) told
    ∙ ap (start checked.protocol) count)
