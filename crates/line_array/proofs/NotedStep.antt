-- A step of one line put a packet exactly where there is one more than before, on the link on which
-- it may.
use Rattle.std.proofs.Common.{◌≡◌, ◌+◌, ◌≤◌, Bool, true, false, nat_lt, if◌then◌else◌}
use Rattle.std.proofs.Common.{List, [], ◌∷◌, ◌++◌, length, Option, Some, None, refl, sym, ap, ◌∙◌}
use Rattle.std.proofs.Common.{subst, arith, length-append}
use Rattle.std.proofs.lemmas.Bool.{lt-ltb, le-ltb}
use Rattle.std.proofs.lemmas.Option.{same_Some}
use Rattle.std.specs.Option.{option_map, option_and_then}
use Rattle.ordered_links.specs.Link.{Link, Up, Down}
use Rattle.ordered_links.specs.Lists.{LinkPair, packets_on, after_put}
use Rattle.async_shape.specs.Setting.{Setting}
use Rattle.async_shape.specs.Config.{Config}
use Rattle.async_shape.specs.Outcome.{Put}
use Rattle.async_shape.specs.Next.{StepOutcome, next, put_of, links_left, links_after}
use Rattle.async_shape.specs.Next.{displaced_sender}
use Rattle.async_shape.specs.Shape.{IsShaped}
use Rattle.async_shape.specs.declared.step.Step.{Step}
use Rattle.async_shape.proofs.PutsHaveRoom.{HasRoomFor, put-room}
use Rattle.async_shape.proofs.StepInversion.{next-outcome}
use Rattle.line_array.specs.Carried.{is_link}
use Rattle.line_array.specs.Noted.{link_of, link_if, most_on, count_if, may_put_in}
use Rattle.line_array.specs.declared.shared.SharedLink.{SharedLink}
use Rattle.line_array.proofs.InStepOf.{few-on_line}
use Rattle.line_array.proofs.OnLinks.{is_link-same, is_link-itself, packets_on-same}
use Rattle.line_array.proofs.OnLinks.{packets_on-other}
use Rattle.line_array.proofs.PutLink.{IsPutThere, put-may, may_put-apart, takes-there}
use Rattle.line_array.proofs.Sharing.{room-within}

-- two links that differ, differ the other way round too
pub is_link-apart : (on link : Link) → is_link on link ≡ false → is_link link on ≡ false
is_link-apart on link apart = by (is_link link on) refl
  where
    by : (same : Bool) → is_link link on ≡ same → same ≡ false
    by true is =
        let itself : is_link on on ≡ false =
        subst (λ (l : Link). is_link on l ≡ false) (is_link-same link on is) apart in
        absurd (cc (itself, is_link-itself on))
    by false is = refl

-- what is left on a link from which nothing is taken
left-kept : (link : Link) (from : Option Link) (links : List LinkPair)
    → ((l : Link) → from ≡ Some l → is_link link l ≡ false)
    → packets_on link (links_left from links) ≡ packets_on link links
left-kept link None links apart = refl
left-kept link (Some from) links apart =
    packets_on-other from link _ links (is_link-apart link from (apart from refl))

-- by what is put and taken, and the link that is looked at
noted_by : (links : List LinkPair) (put : Option Put) (from : Option Link)
    (link : Option SharedLink) → IsPutThere (link_if link) put → HasRoomFor links put
    → ((on l : Link) → link_if link ≡ Some on → from ≡ Some l → is_link on l ≡ false)
    → link_if (if nat_lt (count_if links link) (count_if (links_after put from links) link)
    then link else None)
    ≡ option_map (λ put. put.on) put
noted_by links None from None there room apart = refl
noted_by links (Some put) from None there room apart = absurd (cc)
noted_by links None from (Some link) there room apart =
    let count : count_if (links_left from links) (Some link) ≡ count_if links (Some link) =
    ap length (left-kept (link_of link) from links (λ l takes. apart (link_of link) l refl takes))
    in
    let none : nat_lt (count_if links (Some link)) (count_if (links_left from links) (Some link))
    ≡ false = le-ltb _ _ (omega (arith, count)) in
    ap (λ (more : Bool). link_if (if more then Some link else None)) none
noted_by links (Some put) from (Some link) there room apart =
    let on : link_of link ≡ put.on = same_Some (link_of link) put.on there in
    let put_links = after_put put.on put.packet links in
    let packets : packets_on (link_of link) (links_left from put_links)
    ≡ packets_on (link_of link) links ++ put.packet ∷ [] =
    left-kept (link_of link) from put_links (λ l takes. apart (link_of link) l refl takes)
    ∙ subst (λ (l : Link). packets_on l put_links ≡ packets_on l links ++ put.packet ∷ []) (sym on)
    (packets_on-same put.on (packets_on put.on links ++ put.packet ∷ []) links
    (room-within links put.on room)) in
    let count : length (packets_on (link_of link) (links_left from put_links))
    ≡ length (packets_on (link_of link) links) + 1 =
    ap length packets ∙ length-append (packets_on (link_of link) links) (put.packet ∷ []) in
    let more : nat_lt (length (packets_on (link_of link) links))
    (length (packets_on (link_of link) (links_left from put_links))) ≡ true =
    lt-ltb _ _ (omega (arith, count)) in
    ap (λ (more : Bool). link_if (if more then Some link else None)) more
    ∙ ap (λ (l : Link). Some l) on

-- So it is of a step that is enabled.
pub noted : (setting : Setting) (old new : Config) (s : Step) (link : Option SharedLink)
    → IsShaped setting old → link_if link ≡ may_put_in setting old s
    → next setting old s ≡ Some new
    → link_if (if nat_lt (count_if old.links link) (count_if new.links link) then link else None)
    ≡ option_map (λ put. put.on) (put_of setting old s)
noted setting old new s link shaped may did =
    let by = next-outcome setting old new s did in
    let o = by.0 in
    let there : IsPutThere (link_if link) o.put =
    subst (λ (l : Option Link). IsPutThere l o.put) (sym may)
    (put-may setting old shaped s o by.1) in
    let apart : (on l : Link) → link_if link ≡ Some on → o.takes_from ≡ Some l
    → is_link on l ≡ false =
    λ on l is takes.
    may_put-apart (displaced_sender setting old s) s on l (sym may ∙ is)
    (sym (takes-there setting old s o by.1) ∙ takes) in
    let puts : put_of setting old s ≡ o.put =
    ap (λ (did : Option StepOutcome). option_and_then (λ o. o.put) did) by.1 in
    let is =
    noted_by old.links o.put o.takes_from link there (put-room setting old shaped s o by.1) apart in
    subst (λ (c : Config). link_if (if nat_lt (count_if old.links link) (count_if c.links link)
    then link else None) ≡ option_map (λ put. put.on) (put_of setting old s)) (sym by.2)
    (is ∙ ap (option_map (λ (put : Put). put.on)) (sym puts))

-- Few packets are on the link that is looked at.
pub few-counted : (setting : Setting) (c : Config) (link : Option SharedLink)
    → IsShaped setting c → count_if c.links link ≤ 3
few-counted setting c None shaped = let least : 0 ≤ 3 = omega arith in least
few-counted setting c (Some link) shaped =
    let few = few-on_line setting c shaped (link_of link) in
    let most : most_on 1 (link_of link) ≤ 3 = most-three (link_of link) in
    omega (arith, few, most)
  where
    most-three : (link : Link) → most_on 1 link ≤ 3
    most-three (Up j) = omega arith
    most-three (Down j) = omega arith
