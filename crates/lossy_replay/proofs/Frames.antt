-- The numbers of frames, written one after the other.
use Rattle.std.proofs.Common.{◌≡◌, ◌==◌, ◌+◌, ◌++◌, ℕ, zero, suc, List, [], ◌∷◌, take, decimal}
use Rattle.std.proofs.Common.{Some, None, slice_get, sym, ap, ◌∙◌, arith}
use Rattle.std.proofs.lemmas.List.{take_all}
use Rattle.std.specs.Option.{option_map}
use Rattle.std.proofs.lemmas.Option.{slice_get_within, get_or_from_slice_get}
use Rattle.rv_base.proofs.Lists.{some_map}
use Rattle.proto_model.specs.Texts.{separator}
use Rattle.faulty_link.specs.declared.frame.Frame.{Frame}
use Rattle.run_replay.specs.Listed.{joined}
use Rattle.run_replay.proofs.Listing.{listed-one_more}
use Rattle.lossy_replay.specs.LossyTrace.{frame_texts}

-- One more frame adds its number.
pub number-listed : (frames : List Frame) (place number : ℕ)
    → option_map (λ (frame : Frame). frame.number) (slice_get frames place) ≡ Some number
    → joined (frame_texts (take place frames)) ++ (separator (place == 0) ++ decimal number)
    ≡ joined (frame_texts (take (place + 1) frames))
number-listed frames place number there =
    let found = some_map (λ (frame : Frame). frame.number) (slice_get frames place) number there in
    let frame : Frame = found.0 in
    let listed = joined (frame_texts (take place frames)) in
    ap (λ (n : ℕ). listed ++ (separator (place == 0) ++ decimal n))
    (sym found.2 ∙ ap (λ (f : Frame). f.number)
    (sym (get_or_from_slice_get frames place frame frame found.1)))
    ∙ listed-one_more (λ (f : Frame). decimal f.number) frames place frame
    (slice_get_within frames place frame found.1)

-- Where there is no further frame, all are written.
pub all-listed : (frames : List Frame) (place : ℕ)
    → option_map (λ (frame : Frame). frame.number) (slice_get frames place) ≡ None
    → take place frames ≡ frames
all-listed [] place none = take_all place [] (omega arith)
all-listed (frame ∷ frames) zero none = absurd (cc)
all-listed (frame ∷ frames) (suc place) none =
    ap (λ (rest : List Frame). frame ∷ rest) (all-listed frames place none)
