-- Each file is refused with one text or holds one value, by the form in which a command stores a
-- protocol and by that in which one takes an image.
use Rattle.std.proofs.Common.{◌≡◌, ◌⊎◌, inl, inr, ℕ, ◌<◌, ◌≤◌, ◌^◌, Bool, true, false, List, []}
use Rattle.std.proofs.Common.{◌∷◌}
use Rattle.std.proofs.Common.{length, refl, sym, ap, subst, ◌∙◌, arith}
use Rattle.std.specs.Str.{bytes_eq}
use Rattle.std.specs.List.{AllByRecursion}
use Rattle.std.proofs.lemmas.Bool.Decides.{leb_tells}
use Rattle.std.proofs.lemmas.List.{length-take}
use Rattle.std.proofs.lemmas.Slice.Eq.{bytes_eq-Decides}
use Rattle.std.specs.Prelude.{drop}
use Rattle.rv_base.specs.Whole.{file_limit}
use Rattle.proto_model.specs.Tokens.{Text}
use Rattle.proto_model.specs.Spelled.{Spells}
use Rattle.proto_model.specs.LaidOut.{laid_out}
use Rattle.proto_model.specs.Faults.{faults}
use Rattle.proto_model.specs.Numbered.{CheckedProtocol, numbered}
use Rattle.proto_model.specs.declared.mode.Mode.{Mode}
use Rattle.proto_model.specs.declared.protocol.Protocol.{Protocol}
use Rattle.proto_model.proofs.LaidOutSpells.{laid_out_spells}
use Rattle.protocol_reader.proofs.File.{every_file, spelled_once}
use Rattle.star_check.proofs.WellFormed.{well_formed-proper}
use Rattle.controller_table.specs.Sound.{Tabled, table_in}
use Rattle.control_store.specs.RowWord.{IsInRange}
use Rattle.control_store.specs.Head.{Begins, text_behind}
use Rattle.control_store.specs.Compared.{all_rows}
use Rattle.control_store.specs.declared.heads.Head.{Head}
use Rattle.control_store.specs.declared.comparing.Compared.{Compared}
use Rattle.control_store.specs.declared.comparing.Compared.TheVariants as compared
use Rattle.control_store.proofs.Ranges.{protocol-rows-in}
use Rattle.control_store.proofs.FewRows.{protocol-few}
use Rattle.control_store.proofs.HeadOnce.{Begins-once, head-decides}
use Rattle.control_store.proofs.ComparedOnce.{Compares-once, Compares-some}
use Rattle.control_store.proofs.WholeImage.{whole-image, image_head, image-begins, image-text}
use Rattle.control_store.proofs.WholeImage.{image-same, image-length}
use Rattle.rvc_top.specs.Texts.{too_long_text}
use Rattle.rvc_top.specs.Forms.{RefusesOrHolds, IsForm, checked_form}
use Rattle.rvc_top.specs.Stores.{stored_image, IsStorable, Stored, text_too_long_text}
use Rattle.rvc_top.specs.Stores.{RefusesUnstored, HoldsStored, stored_form, image_limit}
use Rattle.rvc_top.specs.Stores.{no_head_text, no_text_text, no_rows_text, no_row_text, TellsRows}
use Rattle.rvc_top.specs.Stores.{HasText, RowsCompare, RefusesBehind, RefusesUnlike}
use Rattle.rvc_top.specs.Stores.{RefusesUnbooted, HoldsImage, image_form}
use Rattle.rvc_top.specs.declared.boot.Booted.{Booted}
use Rattle.rvc_top.proofs.Forms.{checked_form-is}

-- ---- files that are to be stored

abbrev stored_of : Text → CheckedProtocol → Stored
stored_of text checked = record { text = text; checked = checked }

stored-by : (file : Text) → RefusesOrHolds checked_form file → RefusesOrHolds stored_form file
stored-by file (inl x) = inl (x.0, inl x.1)
stored-by file (inr x) =
    let holds = x.1 in
    let p : Protocol = holds.0 in
    elim (leb_tells (length (laid_out p)) file_limit) [
      | inl short ↦ inr (
        stored_of (laid_out p) (numbered p),
        (
          p,
          holds.1,
          holds.2,
          record {
            sayable = holds.2.sayable;
            well_formed = holds.3;
            short = short.1;
          },
          refl,
          refl,
        ),
      )
      | inr long ↦
          inl (text_too_long_text, inr (p, holds.1, holds.2, holds.3, long.1, refl))
    ]

stored-or-not : (file text : Text) (stored : Stored) → HoldsStored file stored
    → RefusesUnstored file text → ⊥
stored-or-not file text stored has (inl x) =
    checked_form-is.not_both file text (numbered has.0)
    (has.0, has.1, has.2, has.3.well_formed, refl) x
stored-or-not file text stored has (inr x) =
    let same : has.0 ≡ x.0 = spelled_once file has.0 x.0 has.2 x.2 in
    let short : length (laid_out x.0) ≤ file_limit =
    subst (λ (p : Protocol). length (laid_out p) ≤ file_limit) same has.3.short in
    let long = x.4 in
    omega arith

unstored-once : (file t u : Text) → RefusesUnstored file t → RefusesUnstored file u → t ≡ u
unstored-once file t u (inl x) (inl y) = checked_form-is.refused_once file t u x y
unstored-once file t u (inl x) (inr y) =
    absurd (checked_form-is.not_both file t (numbered y.0) (y.0, y.1, y.2, y.3, refl) x)
unstored-once file t u (inr x) (inl y) =
    absurd (checked_form-is.not_both file u (numbered x.0) (x.0, x.1, x.2, x.3, refl) y)
unstored-once file t u (inr x) (inr y) = x.5 ∙ sym y.5

stored-same : (file : Text) (a b : Stored) → HoldsStored file a → HoldsStored file b → a ≡ b
stored-same file a b x y =
    let same : x.0 ≡ y.0 = spelled_once file x.0 y.0 x.2 y.2 in
    let text : a.text ≡ b.text = x.4 ∙ (ap (λ (p : Protocol). laid_out p) same ∙ sym y.4) in
    let checked : a.checked ≡ b.checked =
    x.5 ∙ (ap (λ (p : Protocol). numbered p) same ∙ sym y.5) in
    ap (λ (t : Text). stored_of t a.checked) text
    ∙ ap (λ (c : CheckedProtocol). stored_of b.text c) checked

pub stored_form-is : IsForm stored_form
stored_form-is = record {
  decides = λ file. stored-by file (checked_form-is.decides file);
  not_both = stored-or-not;
  refused_once = unstored-once;
  held_once = stored-same;
}

-- ---- one protocol for one text

pub spells-own : (text : Text) (p : Protocol) → IsStorable p → text ≡ laid_out p → Spells text p
spells-own text p storable is =
    subst (λ (t : Text). Spells t p) (sym is) (laid_out_spells p storable.sayable)

pub storable-same : (text : Text) (p q : Protocol) → IsStorable p → IsStorable q
    → text ≡ laid_out p → text ≡ laid_out q → p ≡ q
storable-same text p q storable_p storable_q is_p is_q =
    spelled_once text p q (spells-own text p storable_p is_p) (spells-own text q storable_q is_q)

abbrev HasProtocol : Text → Type 0
HasProtocol text = (p : Protocol) × IsStorable p × (text ≡ laid_out p)

abbrev HasNone : Text → Type 0
HasNone text = (p : Protocol) → IsStorable p → text ≡ laid_out p → ⊥

by-faults : (text : Text) (p : Protocol) (fs : List (ℕ × ℕ)) → length text ≤ file_limit
    → Spells text p → text ≡ laid_out p → faults p ≡ fs → HasProtocol text ⊎ HasNone text
by-faults text p [] short spells is none =
    let count : length text ≡ length (laid_out p) = ap (λ (t : Text). length t) is in
    let few : length (laid_out p) ≤ file_limit = omega arith in
    inl (p, record { sayable = spells.sayable; well_formed = none; short = few }, is)
by-faults text p (f ∷ fs) short spells is some =
    inr (λ q storable is_q.
    let same : q ≡ p = spelled_once text q p (spells-own text q storable is_q) spells in
    let none : faults p ≡ [] = subst (λ (r : Protocol). faults r ≡ []) same storable.well_formed in
    absurd (cc (none, some)))

by-text : (text : Text) (p : Protocol) (same : Bool) → length text ≤ file_limit → Spells text p
    → bytes_eq text (laid_out p) ≡ same → HasProtocol text ⊎ HasNone text
by-text text p true short spells e =
    by-faults text p (faults p) short spells ((bytes_eq-Decides text (laid_out p)).0 e) refl
by-text text p false short spells e =
    inr (λ q storable is_q.
    let same : q ≡ p = spelled_once text q p (spells-own text q storable is_q) spells in
    let is : text ≡ laid_out p = is_q ∙ ap (λ (r : Protocol). laid_out r) same in
    let yes : bytes_eq text (laid_out p) ≡ true = (bytes_eq-Decides text (laid_out p)).1 is in
    absurd (cc (yes, e)))

text-decides : (text : Text) → length text ≤ file_limit → HasProtocol text ⊎ HasNone text
text-decides text short =
    elim (every_file text) [
      | inl x ↦ by-text text x.0 (bytes_eq text (laid_out x.0)) short x.1 refl
      | inr x ↦ inr (λ q storable is. x.1.spells_none q (spells-own text q storable is))
    ]

-- ---- what is seen in a file

-- The file begins with this head, has the text of this protocol, and its rows compare so with those
-- of the protocol's table in the head's mode.
pub record IsSeen (file : Text) (head : Head) (p : Protocol) (found : Compared) : Type 0 where
  pub begins : Begins file head
  pub text : HasText file head p
  pub rows : RowsCompare file head p found

small-file : (file : Text) → length file ≤ image_limit → length file < 2 ^ 64
small-file file short = omega arith

texts-same : (file : Text) (head : Head) (p q : Protocol) → HasText file head p
    → HasText file head q → p ≡ q
texts-same file head p q x y = storable-same (text_behind head file) p q x.0 y.0 x.1 y.1

rows-same : (file : Text) (head : Head) (p q : Protocol) (f g : Compared) → p ≡ q
    → RowsCompare file head p f → RowsCompare file head q g → f ≡ g
rows-same file head p q f g same x y =
    Compares-once head file (table_in (numbered q).protocol head.mode) f g
    (subst (λ (r : Protocol). RowsCompare file head r f) same x) y

range-of : (p : Protocol) (mode : Mode) → IsStorable p
    → AllByRecursion IsInRange (all_rows (table_in (numbered p).protocol mode))
range-of p mode storable =
    protocol-rows-in (numbered p).protocol mode (well_formed-proper p storable.well_formed)

image-seen : (p : Protocol) (mode : Mode) → IsStorable p
    → IsSeen (stored_image p mode)
    (image_head (laid_out p) (table_in (numbered p).protocol mode)) p compared.Same
image-seen p mode storable =
    let table : Tabled = table_in (numbered p).protocol mode in
    let short : length (laid_out p) ≤ 65536 = storable.short in
    record {
      begins = image-begins (laid_out p) table short;
      text = (storable, image-text (laid_out p) table short);
      rows = image-same (laid_out p) table short (range-of p mode storable);
    }

image-short : (p : Protocol) (mode : Mode) → IsStorable p
    → length (stored_image p mode) ≤ image_limit
image-short p mode storable =
    let table : Tabled = table_in (numbered p).protocol mode in
    let short = storable.short in
    let count = image-length (laid_out p) table in
    let few =
    protocol-few (numbered p).protocol mode (well_formed-proper p storable.well_formed) in
    omega arith

abbrev pub booted_of : CheckedProtocol → Mode → Booted
booted_of checked mode = record { checked = checked; mode = mode }

pub seen-holds : (file : Text) (head : Head) (p : Protocol) → IsSeen file head p compared.Same
    → HoldsImage file (booted_of (numbered p) head.mode)
seen-holds file head p seen = (
  p,
  seen.text.0,
  whole-image file (laid_out p) head (table_in (numbered p).protocol head.mode) seen.begins refl
      seen.text.1 seen.rows,
  refl,
)

-- what is seen in a file that holds this value, of this protocol
record IsSeenIn (file : Text) (booted : Booted) (p : Protocol) : Type 0 where
  head : Head
  short : length file ≤ image_limit
  seen : IsSeen file head p compared.Same
  mode : booted.mode ≡ head.mode
  checked : booted.checked ≡ numbered p

holds-seen : (file : Text) (booted : Booted) (has : HoldsImage file booted)
    → IsSeenIn file booted has.0
holds-seen file booted has =
    let p : Protocol = has.0 in
    let head : Head = image_head (laid_out p) (table_in (numbered p).protocol booted.mode) in
    record {
      head = head;
      short = subst (λ (f : Text). length f ≤ image_limit) (sym has.2)
          (image-short p booted.mode has.1);
      seen = subst (λ (f : Text). IsSeen f head p compared.Same) (sym has.2)
          (image-seen p booted.mode has.1);
      mode = refl;
      checked = has.3;
    }

-- ---- files that are to be images

by-rows : (file : Text) (head : Head) (p : Protocol) (found : Compared)
    → length file ≤ image_limit → Begins file head → HasText file head p
    → RowsCompare file head p found → RefusesOrHolds image_form file
by-rows file head p compared.Same short begins text rows = inr (
  booted_of (numbered p) head.mode,
  seen-holds file head p (record { begins = begins; text = text; rows = rows }),
)
by-rows file head p compared.Counts short begins text rows = inl (
  no_rows_text,
  inr (short, inr (head, begins, inr (p, compared.Counts, text, rows, refl))),
)
by-rows file head p (compared.Row place) short begins text rows = inl (
  no_row_text place,
  inr (short, inr (head, begins, inr (p, compared.Row place, text, rows, refl))),
)

behind-short : (file : Text) (head : Head) → Begins file head
    → length (text_behind head file) ≤ file_limit
behind-short file head begins =
    let short = begins.short_text in
    omega (arith, length-take head.text (drop 40 file))

behind-decides : (file : Text) (head : Head) → length file ≤ image_limit → Begins file head
    → RefusesOrHolds image_form file
behind-decides file head short begins =
    elim (text-decides (text_behind head file) (behind-short file head begins)) [
      | inl x ↦
          let rows =
          Compares-some head file (table_in (numbered x.0).protocol head.mode)
          (range-of x.0 head.mode x.1) in
          by-rows file head x.0 rows.0 short begins (x.1, x.2) rows.1
      | inr none ↦ inl (
        no_text_text,
        inr (short, inr (head, begins, inl (λ p has. none p has.0 has.1, refl))),
      )
    ]

image-decides : (file : Text) → RefusesOrHolds image_form file
image-decides file =
    elim (leb_tells (length file) image_limit) [
      | inl short ↦ elim (head-decides file (small-file file short.1)) [
        | inl x ↦ behind-decides file x.0 short.1 x.1
        | inr none ↦ inl (no_head_text, inr (short.1, inl (none, refl)))
      ]
      | inr long ↦ inl (too_long_text, inl (long.1, refl))
    ]

tells-once : (found : Compared) (t u : Text) → TellsRows found t → TellsRows found u → t ≡ u
tells-once compared.Same t u x y = absurd x
tells-once compared.Counts t u x y = x ∙ sym y
tells-once (compared.Row place) t u x y = x ∙ sym y

behind-once : (file : Text) (head : Head) (t u : Text) → RefusesBehind file head t
    → RefusesBehind file head u → t ≡ u
behind-once file head t u (inl x) (inl y) = x.1 ∙ sym y.1
behind-once file head t u (inl x) (inr y) = absurd (x.0 y.0 y.2)
behind-once file head t u (inr x) (inl y) = absurd (y.0 x.0 x.2)
behind-once file head t u (inr x) (inr y) =
    let same : x.0 ≡ y.0 = texts-same file head x.0 y.0 x.2 y.2 in
    let found : x.1 ≡ y.1 = rows-same file head x.0 y.0 x.1 y.1 same x.3 y.3 in
    tells-once y.1 t u (subst (λ (f : Compared). TellsRows f t) found x.4) y.4

unlike-once : (file t u : Text) → length file ≤ image_limit → RefusesUnlike file t
    → RefusesUnlike file u → t ≡ u
unlike-once file t u short (inl x) (inl y) = x.1 ∙ sym y.1
unlike-once file t u short (inl x) (inr y) = absurd (x.0 y.0 y.1)
unlike-once file t u short (inr x) (inl y) = absurd (y.0 x.0 x.1)
unlike-once file t u short (inr x) (inr y) =
    let same : x.0 ≡ y.0 = Begins-once file x.0 y.0 (small-file file short) x.1 y.1 in
    behind-once file y.0 t u (subst (λ (h : Head). RefusesBehind file h t) same x.2) y.2

unbooted-once : (file t u : Text) → RefusesUnbooted file t → RefusesUnbooted file u → t ≡ u
unbooted-once file t u (inl x) (inl y) = x.1 ∙ sym y.1
unbooted-once file t u (inl x) (inr y) = absurd (omega (arith, x.0, y.0))
unbooted-once file t u (inr x) (inl y) = absurd (omega (arith, x.0, y.0))
unbooted-once file t u (inr x) (inr y) = unlike-once file t u x.0 x.1 y.1

behind-or-not : (file : Text) (head : Head) (p : Protocol) (text : Text)
    → IsSeen file head p compared.Same → RefusesBehind file head text → ⊥
behind-or-not file head p text seen (inl x) = x.0 p seen.text
behind-or-not file head p text seen (inr x) =
    let same : x.0 ≡ p = texts-same file head x.0 p x.2 seen.text in
    let found : x.1 ≡ compared.Same =
    rows-same file head x.0 p x.1 compared.Same same x.3 seen.rows in
    subst (λ (f : Compared). TellsRows f text) found x.4

image-or-not : (file text : Text) (booted : Booted) → HoldsImage file booted
    → RefusesUnbooted file text → ⊥
image-or-not file text booted has refuses =
    let in_file = holds-seen file booted has in
    by-case in_file.head has.0 in_file.short in_file.seen refuses where
      by-case : (head : Head) (p : Protocol) → length file ≤ image_limit
          → IsSeen file head p compared.Same → RefusesUnbooted file text → ⊥
      by-case head p short seen (inl x) = omega (arith, x.0)
      by-case head p short seen (inr x) = elim x.1 [
        | inl none ↦ none.0 head seen.begins
        | inr y ↦
            let same : y.0 ≡ head =
            Begins-once file y.0 head (small-file file short) y.1 seen.begins in
            behind-or-not file head p text seen
            (subst (λ (h : Head). RefusesBehind file h text) same y.2)
      ]

-- two values that one file holds are of one protocol, in one mode
record AreOne (a b : Booted) (p q : Protocol) : Type 0 where
  protocol : p ≡ q
  mode : a.mode ≡ b.mode

seen-once : (file : Text) (a b : Booted) (p q : Protocol) → IsSeenIn file a p → IsSeenIn file b q
    → AreOne a b p q
seen-once file a b p q x y =
    let heads : x.head ≡ y.head =
    Begins-once file x.head y.head (small-file file x.short) x.seen.begins y.seen.begins in
    record {
      protocol = texts-same file y.head p q
          (subst (λ (h : Head). HasText file h p) heads x.seen.text) y.seen.text;
      mode = x.mode ∙ (ap (λ (h : Head). h.mode) heads ∙ sym y.mode);
    }

image-same_value : (file : Text) (a b : Booted) → HoldsImage file a → HoldsImage file b → a ≡ b
image-same_value file a b x y =
    let in_a = holds-seen file a x in
    let in_b = holds-seen file b y in
    let one = seen-once file a b x.0 y.0 in_a in_b in
    let checked : a.checked ≡ b.checked =
    in_a.checked ∙ (ap (λ (p : Protocol). numbered p) one.protocol ∙ sym in_b.checked) in
    ap (λ (c : CheckedProtocol). booted_of c a.mode) checked
    ∙ ap (λ (m : Mode). booted_of b.checked m) one.mode

pub image_form-is : IsForm image_form
image_form-is = record {
  decides = image-decides;
  not_both = image-or-not;
  refused_once = unbooted-once;
  held_once = image-same_value;
}

-- ---- one protocol and one mode for one image

abbrev pub holds-own : (p : Protocol) (mode : Mode) → IsStorable p
    → HoldsImage (stored_image p mode) (booted_of (numbered p) mode)
holds-own p mode storable = (p, storable, refl, refl)

pub one-protocol : (p q : Protocol) (m n : Mode) → IsStorable p → IsStorable q
    → stored_image p m ≡ stored_image q n → (p ≡ q) × (m ≡ n)
one-protocol p q m n storable_p storable_q same =
    let file : Text = stored_image q n in
    let x = holds-seen file (booted_of (numbered p) m)
    (p, storable_p, sym same, refl) in
    let y = holds-seen file (booted_of (numbered q) n) (holds-own q n storable_q) in
    let one =
    seen-once file (booted_of (numbered p) m) (booted_of (numbered q) n) p q x y in
    (one.protocol, one.mode)
