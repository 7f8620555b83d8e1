-- What a list of items ends as where its items are lent to be changed in place.
use Rattle.std.specs.Prelude.{List, ◌++◌, length, take, drop}
use Rattle.std.specs.Borrow.{Lends, Fml, RattleType, MutBor, Array}
use Rattle.rv_base.specs.contracts.items.Items.{the_row}

-- The last of these items, in place of as many of the list's.
abbrev pub in_place : {X : Type 0} → List X → List X → List X
in_place old last = take (length old) (last ++ drop (length last) old)

-- Once the items are no longer lent, the list has the items that the reference shows last.
abbrev pub LendsItems : (T : RattleType) → MutBor (List T.Denot) → MutBor (List T.Denot) → Fml
LendsItems T list items = Lends (the_row T) (Array T 0) list items (in_place list.now)
