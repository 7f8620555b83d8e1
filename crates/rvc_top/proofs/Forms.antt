-- Each file is refused with one text or holds one value, by each form in which commands take a
-- file.
use Rattle.std.proofs.Common.{◌≡◌, ℕ, ◌<◌, ◌≤◌, List, [], ◌∷◌, length, get_or, Some, None, sym}
use Rattle.std.proofs.Common.{◌∙◌, ap, subst, refl, arith, inl, inr, ◌⊎◌}
use Rattle.std.specs.Prelude.{slice_get}
use Rattle.std.proofs.lemmas.Option.{slice_get-get_or}
use Rattle.std.proofs.lemmas.Bool.Decides.{leb_tells}
use Rattle.proto_model.specs.Tokens.{Text}
use Rattle.proto_model.specs.Spelled.{Spells, IsFaultLine, item_lines}
use Rattle.proto_model.specs.Faults.{faults, first, first_fault, item_codes}
use Rattle.proto_model.specs.Numbered.{CheckedProtocol, numbered}
use Rattle.proto_model.specs.declared.protocol.Protocol.{Protocol}
use Rattle.protocol_reader.proofs.File.{every_file, spelled_once}
use Rattle.protocol_reader.proofs.OneFaultLine.{one-fault-line}
use Rattle.protocol_reader.proofs.ItemLines.{item_lines-length}
use Rattle.rv_base.specs.Whole.{file_limit}
use Rattle.rvc_top.specs.Texts.{too_long_text, fault_text}
use Rattle.rvc_top.specs.Forms.{RefusesOrHolds, IsForm, RefusesUnspelled, HoldsSpelled}
use Rattle.rvc_top.specs.Forms.{spelled_form, Faulty, RefusesUnchecked, HoldsProtocol, checked_form}
use Rattle.rvc_top.proofs.FirstFault.{first-within}

-- ---- files that spell a protocol

unspelled-once : (file t u : Text) → RefusesUnspelled file t → RefusesUnspelled file u → t ≡ u
unspelled-once file t u (inl x) (inl y) = x.1 ∙ sym y.1
unspelled-once file t u (inl x) (inr y) = absurd (omega (arith, x.0, y.1))
unspelled-once file t u (inr x) (inl y) = absurd (omega (arith, x.1, y.0))
unspelled-once file t u (inr x) (inr y) =
    x.3 ∙ (ap (λ line. fault_text line 1) (one-fault-line file x.0 y.0 x.2 y.2) ∙ sym y.3)

spelled-or-not : (file u : Text) (p : Protocol) → HoldsSpelled file p → RefusesUnspelled file u → ⊥
spelled-or-not file u p holds (inl x) = omega (arith, holds.0, x.0)
spelled-or-not file u p holds (inr x) = x.2.spells_none p holds.1

spelled-same : (file : Text) (a b : Protocol) → HoldsSpelled file a → HoldsSpelled file b → a ≡ b
spelled-same file a b x y = spelled_once file a b x.1 y.1

spelled-short : (file : Text) → length file ≤ file_limit
    → ((p : Protocol) × Spells file p) ⊎ ((line : ℕ) × IsFaultLine file line)
    → RefusesOrHolds spelled_form file
spelled-short file short (inl x) = inr (x.0, (short, x.1))
spelled-short file short (inr x) = inl (fault_text x.0 1, inr (x.0, short, x.1, refl))

spelled-decides : (file : Text) → RefusesOrHolds spelled_form file
spelled-decides file =
    elim (leb_tells (length file) file_limit) [
      | inl short ↦ spelled-short file short.1 (every_file file)
      | inr long ↦ inl (too_long_text, inl (long.1, refl))
    ]

pub spelled_form-is : IsForm spelled_form
spelled_form-is = record {
  decides = spelled-decides;
  not_both = spelled-or-not;
  refused_once = unspelled-once;
  held_once = spelled-same;
}

-- ---- files that spell a well-formed protocol

fault-is : (a b : ℕ × ℕ) → Some a ≡ Some b → a ≡ b
fault-is a b e = cc

line-is : (a b : ℕ) → Some a ≡ Some b → a ≡ b
line-is a b e = cc

pub no-fault : (fs : List (ℕ × ℕ)) (f : ℕ × ℕ) → fs ≡ [] → first fs ≡ Some f → ⊥
no-fault fs f none some = let h : first fs ≡ None = ap first none in absurd (cc)

faulty-once : (p : Protocol) (lines : List ℕ) (t u : Text) → Faulty p lines t → Faulty p lines u
    → t ≡ u
faulty-once p lines t u x y =
    let same = fault-is (x.0, x.1) (y.0, y.1) (sym x.3 ∙ y.3) in
    let item : x.0 ≡ y.0 = ap (λ (f : ℕ × ℕ). f.0) same in
    let code : x.1 ≡ y.1 = ap (λ (f : ℕ × ℕ). f.1) same in
    let line : x.2 ≡ y.2 = line-is x.2 y.2 (sym x.4 ∙ ap (λ (i : ℕ). slice_get lines i) item ∙ y.4)
    in
    x.5 ∙ ap (λ (l : ℕ). fault_text l x.1) line ∙ ap (fault_text y.2) code ∙ sym y.5

unchecked-once : (file t u : Text) → RefusesUnchecked file t → RefusesUnchecked file u → t ≡ u
unchecked-once file t u (inl x) (inl y) = unspelled-once file t u x y
unchecked-once file t u (inl x) (inr y) = absurd (spelled-or-not file t y.0 (y.1, y.2) x)
unchecked-once file t u (inr x) (inl y) = absurd (spelled-or-not file u x.0 (x.1, x.2) y)
unchecked-once file t u (inr x) (inr y) =
    let same : y.0 ≡ x.0 = spelled_once file y.0 x.0 y.2 x.2 in
    let other = subst (λ (p : Protocol). Faulty p (item_lines file p) u) same y.3 in
    faulty-once x.0 (item_lines file x.0) t u x.3 other

checked-or-not : (file u : Text) (protocol : CheckedProtocol) → HoldsProtocol file protocol
    → RefusesUnchecked file u → ⊥
checked-or-not file u protocol has (inl x) = spelled-or-not file u has.0 (has.1, has.2) x
checked-or-not file u protocol has (inr x) =
    let same : x.0 ≡ has.0 = spelled_once file x.0 has.0 x.2 has.2 in
    no-fault (faults has.0) (x.3.0, x.3.1) has.3 (ap first_fault (sym same) ∙ x.3.3)

checked-same : (file : Text) (a b : CheckedProtocol) → HoldsProtocol file a → HoldsProtocol file b
    → a ≡ b
checked-same file a b x y = x.4 ∙ (ap numbered (spelled_once file x.0 y.0 x.2 y.2) ∙ sym y.4)

checked-spelled : (file : Text) (p : Protocol) → HoldsSpelled file p → (fs : List (ℕ × ℕ))
    → faults p ≡ fs
    → RefusesOrHolds checked_form file
checked-spelled file p holds [] e = inr (numbered p, (p, holds.0, holds.1, e, refl))
checked-spelled file p holds ((i, code) ∷ more) e =
    let lines = item_lines file p in
    let within = first-within 0 (item_codes p) i code more e in
    let here : i < length lines = omega (arith, within.1, item_lines-length file p holds.1) in
    let line = get_or lines i 0 in
    let told = slice_get-get_or lines i 0 here in
    inl (fault_text line code, inr (p, holds.0, holds.1, (i, code, line, ap first e, told, refl)))

checked-by : (file : Text) → RefusesOrHolds spelled_form file → RefusesOrHolds checked_form file
checked-by file (inl x) = inl (x.0, inl x.1)
checked-by file (inr x) = checked-spelled file x.0 x.1 (faults x.0) refl

pub checked_form-is : IsForm checked_form
checked_form-is = record {
  decides = λ file. checked-by file (spelled-decides file);
  not_both = checked-or-not;
  refused_once = unchecked-once;
  held_once = checked-same;
}
