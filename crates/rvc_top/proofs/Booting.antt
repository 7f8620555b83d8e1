-- What is found in a file, part by part, is what it holds as an image, or why it is refused.
use Rattle.std.proofs.Common.{◌≡◌, ◌≤◌, ℕ, [], length, Some, None, inr, sym, ap}
use Rattle.std.proofs.Common.{subst}
use Rattle.std.proofs.Common.{◌∙◌, Bool, true, false, not, Option}
use Rattle.std.specs.Option.{option_map}
use Rattle.std.proofs.lemmas.Option.{same_Some}
use Rattle.std.specs.Str.{bytes_eq}
use Rattle.std.proofs.lemmas.Slice.Eq.{bytes_eq-Decides}
use Rattle.proto_model.specs.Tokens.{Text}
use Rattle.proto_model.specs.Spelled.{Spells, IsFaultLine}
use Rattle.proto_model.specs.LaidOut.{laid_out}
use Rattle.proto_model.specs.Faults.{faults, first_fault}
use Rattle.proto_model.specs.Numbered.{CheckedProtocol, numbered}
use Rattle.proto_model.specs.declared.protocol.Protocol.{Protocol}
use Rattle.protocol_reader.proofs.File.{spelled_once}
use Rattle.controller_table.specs.Sound.{Tabled, table_in}
use Rattle.control_store.specs.Head.{Begins, text_behind}
use Rattle.control_store.specs.Compared.{Compares}
use Rattle.control_store.specs.declared.heads.Head.{Head}
use Rattle.control_store.specs.declared.comparing.Compared.{Compared}
use Rattle.control_store.specs.declared.comparing.Compared.TheVariants as compared
use Rattle.rvc_top.specs.Stores.{image_limit, TellsRows}
use Rattle.rvc_top.specs.Stores.{RowsCompare, RefusesUnbooted, HoldsImage}
use Rattle.rvc_top.specs.Storing.{IsTextOf, TellsIf}
use Rattle.rvc_top.proofs.Forms.{no-fault}
use Rattle.rvc_top.proofs.StoreForms.{spells-own, booted_of, seen-holds}

-- ---- the text

pub no_text-fault_line : (text : Text) (line : ℕ) → IsFaultLine text line → IsTextOf text None
no_text-fault_line text line fault =
    λ p storable is. fault.spells_none p (spells-own text p storable is)

pub no_text-other : (text : Text) (p : Protocol) → Spells text p → (text ≡ laid_out p → ⊥)
    → IsTextOf text None
no_text-other text p spells other = λ q storable is.
    let same : q ≡ p = spelled_once text q p (spells-own text q storable is) spells in
    other (is ∙ ap (λ (r : Protocol). laid_out r) same)

pub no_text-fault : (text : Text) (p : Protocol) (f : ℕ × ℕ) → Spells text p
    → first_fault p ≡ Some f → IsTextOf text None
no_text-fault text p f spells fault = λ q storable is.
    let same : q ≡ p = spelled_once text q p (spells-own text q storable is) spells in
    no-fault (faults p) f (subst (λ (r : Protocol). faults r ≡ []) same storable.well_formed) fault

-- ---- the file

module _ (file : Text) (head : Head) (checked : CheckedProtocol) (table : Tabled)
    (text : IsTextOf (text_behind head file) (Some checked))
    (compiled : table ≡ table_in checked.protocol head.mode) where
  rows-are : (found : Compared) → Compares head file table found
      → RowsCompare file head text.0 found
  rows-are found compares =
      let same : table ≡ table_in (numbered text.0).protocol head.mode =
      compiled ∙ ap (λ (c : CheckedProtocol). table_in c.protocol head.mode) text.3 in
      subst (λ (t : Tabled). Compares head file t found) same compares

  pub rows-hold : Begins file head → Compares head file table compared.Same
      → HoldsImage file (booted_of checked head.mode)
  rows-hold begins compares =
      subst (λ (c : CheckedProtocol). HoldsImage file (booted_of c head.mode)) (sym text.3)
      (seen-holds file head text.0 (record {
        begins = begins;
        text = (text.1, text.2);
        rows = rows-are compared.Same compares;
      }))

  pub rows-refuse : (found : Compared) (why : Text) → length file ≤ image_limit → Begins file head
      → Compares head file table found → TellsRows found why → RefusesUnbooted file why
  rows-refuse found why short begins compares tells =
      inr (
        short,
        inr (
          head,
          begins,
          inr (text.0, found, (text.1, text.2), rows-are found compares, tells),
        ),
      )

-- texts of which the comparison tells that they differ
pub other-text : (xs ys : Text) (differ : Bool) → differ ≡ not (bytes_eq xs ys) → differ ≡ true
    → xs ≡ ys → ⊥
other-text xs ys differ is differs same =
    let equal : bytes_eq xs ys ≡ true = (bytes_eq-Decides xs ys).1 same in
    let not_equal : not (bytes_eq xs ys) ≡ false = ap (λ (b : Bool). not b) equal in
    absurd (cc (is, differs, not_equal))

-- what is told of rows, where a text is made of it, and where none is
pub tells-none : {V : Type 0} (items : V → Text) (found : Compared) (why : Option V) → why ≡ None
    → TellsIf found (option_map items why) → found ≡ compared.Same
tells-none items found None e tells = tells
tells-none items found (Some v) e tells = absurd (cc)

pub tells-some : {V : Type 0} (items : V → Text) (found : Compared) (why : Option V) (v : V)
    → why ≡ Some v → TellsIf found (option_map items why) → TellsRows found (items v)
tells-some items found None v e tells = absurd (cc)
tells-some {V} items found (Some w) v e tells =
    subst (λ (x : V). TellsRows found (items x)) (same_Some w v e) tells
