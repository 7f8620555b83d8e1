-- The parts of an image are told by its bytes, one after the other.
use Rattle.std.proofs.Common.{◌<◌, ◌^◌, length, length-append, arith}
use Rattle.proto_model.specs.Tokens.{Text}
use Rattle.controller_table.specs.Sound.{IsSound, Tabled}
use Rattle.control_store.proofs.Parts.{HasSmall, mode_number-small, images-parts}
use Rattle.control_store.proofs.FewRows.{table-few}
use Rattle.control_store.proofs.laws.images_tell_their_parts.Goals as goal

small : (text : Text) (table : Tabled) → length text < 2 ^ 64 → IsSound table → HasSmall text table
small text table short sound =
    let few = table-few table sound in
    let sum = length-append table.home.rows table.remote.rows in
    let home : length table.home.rows < 2 ^ 64 = omega arith in
    let remote : length table.remote.rows < 2 ^ 64 = omega arith in
    record { mode = mode_number-small table.mode; text = short; home = home; remote = remote }

pub returns-clause-text : goal.returns-clause-text
returns-clause-text c = λ s t a b ls lt sound_a sound_b e.
    (images-parts s t a b (small s a ls sound_a) (small t b lt sound_b) e).text

pub returns-clause-mode : goal.returns-clause-mode
returns-clause-mode c = λ s t a b ls lt sound_a sound_b e.
    (images-parts s t a b (small s a ls sound_a) (small t b lt sound_b) e).mode

pub returns-clause-rows : goal.returns-clause-rows
returns-clause-rows c = λ s t a b ls lt sound_a sound_b e.
    let parts = images-parts s t a b (small s a ls sound_a) (small t b lt sound_b) e in
    (parts.home, parts.remote)
