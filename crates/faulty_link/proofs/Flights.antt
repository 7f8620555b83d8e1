-- What holds of each frame of a flight after one came or left.
use Rattle.std.proofs.Common.{◌≡◌, ℕ, zero, suc, ◌<◌, ◌≤◌, Bool, true, false, List, [], ◌∷◌}
use Rattle.std.proofs.Common.{length, nat_lt, if◌then◌else◌, refl, arith, length-append}
use Rattle.std.proofs.lemmas.Bool.{ltb-true, ltb-false}
use Rattle.std.proofs.lemmas.List.Edits.{length-remove}
use Rattle.std.specs.List.{AllByRecursion, remove}
use Rattle.rv_base.proofs.Lists.{AllByRecursion-push}
use Rattle.faulty_link.specs.Moves.{making_room, onto_flight}
use Rattle.faulty_link.specs.declared.frame.Frame.{Frame}

pub AllByRecursion-remove : {X : Type 0} (P : X → Type 0) (xs : List X) (place : ℕ)
    → AllByRecursion P xs → AllByRecursion P (remove xs place)
AllByRecursion-remove P [] zero each = tt
AllByRecursion-remove P [] (suc place) each = tt
AllByRecursion-remove P (x ∷ xs) zero each = each.1
AllByRecursion-remove P (x ∷ xs) (suc place) each =
    (each.0, AllByRecursion-remove P xs place each.1)

pub remove-few : (frames : List Frame) (place : ℕ) → place < length frames → length frames ≤ 8
    → length (remove frames place) ≤ 8
remove-few frames place there few =
    let fewer = length-remove frames place there in
    omega (arith, fewer)

-- What holds of each frame, and is there room for one more, after room was made.
record HasRoom (P : Frame → Type 0) (frames : List Frame) : Type 0 where
  each : AllByRecursion P frames
  room : length frames < 8

making_room-has : (P : Frame → Type 0) (frames : List Frame) (few : Bool)
    → nat_lt (length frames) 8 ≡ few → AllByRecursion P frames → length frames ≤ 8
    → HasRoom P (if few then frames else remove frames 0)
making_room-has P frames true has_room each most = record {
  each = each;
  room = ltb-true (length frames) 8 has_room;
}
making_room-has P frames false full each most =
    let many = ltb-false (length frames) 8 full in
    let fewer = length-remove frames 0 (omega (arith, many)) in
    record {
      each = AllByRecursion-remove P frames 0 each;
      room = omega (arith, fewer);
    }

-- A flight is as full as it may be after one more frame.
pub onto_flight-each : (P : Frame → Type 0) (frames : List Frame) (frame : Frame)
    → AllByRecursion P frames → length frames ≤ 8 → P frame
    → AllByRecursion P (onto_flight frames frame)
onto_flight-each P frames frame each most is =
    let made = making_room-has P frames (nat_lt (length frames) 8) refl each most in
    AllByRecursion-push P (making_room frames) frame made.each is

pub onto_flight-few : (frames : List Frame) (frame : Frame) → length frames ≤ 8
    → length (onto_flight frames frame) ≤ 8
onto_flight-few frames frame most =
    let made = making_room-has (λ _. Unit {0}) frames (nat_lt (length frames) 8) refl
    (all frames) most in
    let long = length-append (making_room frames) (frame ∷ []) in
    let room = made.room in
    omega (arith, long, room) where
      all : (frames : List Frame) → AllByRecursion (λ (_ : Frame). Unit {0}) frames
      all [] = tt
      all (frame ∷ frames) = (tt, all frames)
