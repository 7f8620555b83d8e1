-- The lines of the home and of the remotes in a configuration that has the shape.
use Rattle.std.proofs.Common.{◌≡◌, ◌≤◌, ◌<◌, ◌+◌, ◌*◌, ℕ, List, [], ◌∷◌, ◌++◌, length}
use Rattle.std.proofs.Common.{map, Option, Some, None, arith, refl, sym, ap, ◌∙◌, codes}
use Rattle.std.proofs.Common.{slice_get, subst, append_assoc}
use Rattle.std.specs.List.{AllByRecursion}
use Rattle.std.specs.Option.{option_map_or, option_and_then}
use Rattle.std.proofs.lemmas.List.{length-map}
use Rattle.std.proofs.lemmas.Option.{slice_get_within, slice_get-get_or}
use Rattle.rv_base.specs.Lists.{flat_from}
use Rattle.rv_base.proofs.Lists.{AllByRecursion-at, AllByRecursion-map}
use Rattle.proto_model.specs.Tokens.{Text}
use Rattle.proto_model.specs.Proper.{IsProper, IsProperState}
use Rattle.proto_model.specs.declared.numbered.Rule.{Rule}
use Rattle.proto_model.specs.declared.numbered.Side.TheVariants as side
use Rattle.proto_model.specs.declared.numbered.StateInfo.{StateInfo}
use Rattle.controller_table.specs.declared.rows.Place.{Place}
use Rattle.controller_table.specs.declared.rows.Place.TheVariants.{Comm, Trans, Due}
use Rattle.slot_reserve.specs.declared.held.Held.{Held}
use Rattle.ordered_links.specs.declared.packet.Packet.{Packet}
use Rattle.ordered_links.specs.declared.packet.Packet.TheVariants as packet
use Rattle.async_shape.specs.Setting.{Setting}
use Rattle.async_shape.specs.Config.{Config, count_of}
use Rattle.async_shape.specs.Phase.{IsTypedMessage, IsTypedPacket, IsTypedSlot}
use Rattle.async_shape.specs.View.{view_at, nobody}
use Rattle.async_shape.specs.Shape.{IsShaped, IsHomePlace}
use Rattle.async_shape.specs.declared.config.HomePlace.{HomePlace}
use Rattle.async_shape.specs.declared.config.HomePlace.TheVariants.{Idle, Waits}
use Rattle.async_shape.specs.declared.config.HomeState.{HomeState}
use Rattle.async_shape.specs.declared.config.RemoteState.{RemoteState}
use Rattle.async_shape.specs.declared.config.Request.{Request}
use Rattle.async_shape.proofs.Bounds.{shaped-bounded}
use Rattle.async_shape.proofs.ShapeParts.{IsShaped-whole, IsShaped-case}
use Rattle.run_replay.specs.StateLines.{home_place_text, remote_place_text, held_text, debt_text}
use Rattle.run_replay.specs.StateLines.{debt_texts, packet_text, slot_texts, home_state_line}
use Rattle.run_replay.specs.StateLines.{remote_line_of, remote_state_line, bracketed}
use Rattle.trace_soundness.proofs.Plain.{IsPlain}
use Rattle.trace_soundness.specs.ShownLines.{IsShownLine}
use Rattle.trace_soundness.proofs.Fits.{Fits, fits-append, fits-less, fits-literal, fits-nil}
use Rattle.trace_soundness.proofs.Fits.{fits-decimal, fits-bracketed}
use Rattle.trace_soundness.proofs.ValuesFit.{message-fits, message_name-fits, body_vars-fit}
use Rattle.trace_soundness.proofs.ValuesFit.{state_name-fits}

-- ---- lines

-- The text is a line of at most so many bytes, and its LF.
pub record Ends (most : ℕ) (text : Text) : Type 0 where
  pub line : Text
  pub is : text ≡ line ++ 10 ∷ []
  pub fits : Fits most line

-- the LF alone
pub ends-here : Ends 0 (codes "\n")
ends-here = record { line = []; is = refl; fits = fits-nil 0 }

-- a text that fits, before the rest of a line
pub ends-after : {m n : ℕ} {a b : Text} → Fits m a → Ends n b → Ends (m + n) (a ++ b)
ends-after {m} {n} {a} {b} fits rest = record {
  line = a ++ rest.line;
  is = ap (λ (text : Text). a ++ text) rest.is ∙ sym (append_assoc a rest.line (10 ∷ []));
  fits = fits-append fits rest.fits;
}

-- a line has no more bytes than a greater number
pub ends-less : (m : ℕ) {n : ℕ} {text : Text} → Ends n text → n ≤ m → Ends m text
ends-less m ends less =
    record { line = ends.line; is = ends.is; fits = fits-less m ends.fits less }

-- a line behind two spaces
shown : (n : ℕ) (text : Text) → n + 2 ≤ 65536 → Ends n text → IsShownLine (32 ∷ 32 ∷ text)
shown n text few ends = record {
  rest = ends.line;
  is = ap (λ (line : Text). 32 ∷ 32 ∷ line) ends.is;
  few = let short : length ends.line ≤ n = ends.fits.few in omega (arith, short, few);
  one_line = ends.fits.one_line;
}

-- ---- the home

module _ (setting : Setting) (proper : IsProper setting.protocol) (plain : IsPlain setting.protocol)
  where
    -- a guard has a number below 16
    few-guards : (g : ℕ) (found : Option StateInfo) (rule : Rule)
        → ((info : StateInfo) → found ≡ Some info → length info.rules ≤ 16)
        → option_and_then (λ (info : StateInfo). slice_get info.rules g) found ≡ Some rule → g < 16
    few-guards g None rule few there = absurd (cc)
    few-guards g (Some info) rule few there =
        let within = slice_get_within info.rules g rule there in
        let most = few info refl in
        omega (arith, within, most)

    home_place-fits : (k n : ℕ) (home : HomeState) (held : List Held) (place : HomePlace) → n ≤ 64
        → IsHomePlace setting.protocol k n home held place
        → Fits 38 (home_place_text setting.protocol.home place)
    home_place-fits k n home held (Idle state) few is =
        fits-less 38
        (state_name-fits side.Home setting.protocol.messages setting.protocol.home state proper.home
        plain.home) (omega arith)
    home_place-fits k n home held (Waits waiting) few is =
        let guard : waiting.by.guard < 16 = few-guards waiting.by.guard
        (slice_get setting.protocol.home.states waiting.by.state) is.rule
        (λ info there. (AllByRecursion-at
        (IsProperState side.Home setting.protocol.messages setting.protocol.home.vars
        (length setting.protocol.home.states))
        setting.protocol.home.states waiting.by.state info proper.home.states there).few_rules)
        is.there in
        let on : waiting.on < n = is.remote in
        fits-append (state_name-fits side.Home setting.protocol.messages setting.protocol.home
        waiting.by.state
        proper.home plain.home)
        (fits-append (fits-literal (codes "/") refl)
        (fits-append (fits-decimal 2 waiting.by.guard (omega arith) (omega (arith, guard))
        (omega (arith, guard)))
        (fits-append (fits-literal (codes ">") refl)
        (fits-decimal 2 waiting.on (omega arith) (omega (arith, on, few))
        (omega (arith, on, few))))))

    -- a held request
    held-fits : (held : Held) → held.from < 64
        → IsTypedMessage setting.protocol held.message held.value
        → Fits 231 (held_text setting.protocol.messages held)
    held-fits held few typed =
        fits-append
        (fits-decimal 2 held.from (omega arith) (omega (arith, few)) (omega (arith, few)))
        (fits-append (fits-literal (codes ":") refl)
        (message-fits setting.protocol proper plain held.message held.value typed.value))

    -- a debt
    debt-fits : (j p : ℕ) → j < 64 → Fits 35 (debt_text setting.protocol.messages j p)
    debt-fits j p few =
        fits-append (fits-decimal 2 j (omega arith) (omega (arith, few)) (omega (arith, few)))
        (fits-append (fits-literal (codes ":") refl)
        (message_name-fits setting.protocol proper plain p))

    -- the debts to remotes from this one on
    debts-fit : (j : ℕ) (owed : List (Option ℕ)) → j + length owed ≤ 64
        → AllByRecursion (Fits 35) (flat_from (debt_texts setting.protocol.messages) j owed)
        × (length (flat_from (debt_texts setting.protocol.messages) j owed) ≤ length owed)
    debts-fit j [] few = (tt, omega arith)
    debts-fit j (None ∷ owed) few =
        let rest = debts-fit (j + 1) owed (omega (arith, few)) in
        let count = rest.1 in
        (rest.0, omega (arith, count))
    debts-fit j (Some p ∷ owed) few =
        let rest = debts-fit (j + 1) owed (omega (arith, few)) in
        let count = rest.1 in
        ((debt-fits j p (omega (arith, few)), rest.0), omega (arith, count))

    home_line-fits : (c : Config)
        → IsShaped setting c → IsShownLine (home_state_line setting.protocol c)
    home_line-fits c shaped =
        let whole = IsShaped-whole setting c shaped in
        let n = count_of c in
        let few : n ≤ 64 = whole.few_remotes in
        let held_count : length c.held ≤ setting.slots = whole.held.few in
        let slots : setting.slots ≤ 64 = whole.few_slots in
        let held = AllByRecursion-map (Fits 231) (held_text setting.protocol.messages) c.held
        (λ place (item : Held) there.
        let sender : item.from < n = AllByRecursion-at (λ (h : Held). h.from < n) c.held place item
        whole.held.senders there in
        held-fits item (omega (arith, sender, few))
        (AllByRecursion-at (λ (h : Held). IsTypedMessage setting.protocol h.message h.value) c.held
        place
        item whole.held.typed there)) in
        let held_length
        : length (map (held_text setting.protocol.messages) c.held) ≡ length c.held =
        length-map c.held (held_text setting.protocol.messages) in
        let owed_count : length c.home.owed ≡ n = whole.debts in
        let debts = debts-fit 0 c.home.owed (omega (arith, owed_count, few)) in
        let debts_count = debts.1 in
        shown 20857 _ (omega arith)
        (ends-after (fits-literal (codes "home ") refl)
        (ends-after (home_place-fits setting.slots n c.home c.held c.home.place few whole.home)
        (ends-after (body_vars-fit side.Home setting.protocol.messages setting.protocol.home
        c.home.vars proper.home
        plain.home whole.home_vars)
        (ends-after (fits-literal (codes " held") refl)
        (ends-after (fits-bracketed 64 231 (map (held_text setting.protocol.messages) c.held) held
        (omega (arith, held_length, held_count, slots)))
        (ends-after (fits-literal (codes " owed") refl)
        (ends-after (fits-bracketed 64 35
        (flat_from (debt_texts setting.protocol.messages) 0 c.home.owed)
        debts.0 (omega (arith, debts_count, owed_count, few))) ends-here)))))))

    -- ---- a remote

    remote_place-fits : (place : Place) → Fits 33 (remote_place_text setting.protocol.remote place)
    remote_place-fits (Comm state) =
        fits-less 33 (state_name-fits side.Remote setting.protocol.messages setting.protocol.remote
        state proper.remote
        plain.remote) (omega arith)
    remote_place-fits (Trans g) =
        fits-append (state_name-fits side.Remote setting.protocol.messages setting.protocol.remote
        g.state proper.remote
        plain.remote) (fits-literal (codes "*") refl)
    remote_place-fits (Due g) =
        fits-append (state_name-fits side.Remote setting.protocol.messages setting.protocol.remote
        g.state proper.remote
        plain.remote) (fits-literal (codes "!") refl)

    -- the request in a slot
    slot-fits : (slot : Option Request) → IsTypedSlot setting.protocol slot
        → Fits 231 (bracketed (slot_texts setting.protocol.messages slot))
    slot-fits None typed = fits-less 231 (fits-bracketed 1 228 [] tt (omega arith)) (omega arith)
    slot-fits (Some r) typed =
        fits-bracketed 1 228 (slot_texts setting.protocol.messages (Some r))
        (message-fits setting.protocol proper plain r.message r.value typed.value, tt)
        (omega arith)

    packet-fits : (p : Packet) → IsTypedPacket setting.protocol p
        → Fits 229 (packet_text setting.protocol.messages p)
    packet-fits (packet.Request m v) typed =
        fits-append (fits-literal (codes "?") refl)
        (message-fits setting.protocol proper plain m v typed.value)
    packet-fits packet.Ack typed = fits-less 229 (fits-literal (codes "+") refl) (omega arith)
    packet-fits packet.Nack typed = fits-less 229 (fits-literal (codes "-") refl) (omega arith)
    packet-fits (packet.Reply m v) typed =
        fits-append (fits-literal (codes "=") refl)
        (message-fits setting.protocol proper plain m v typed.value)

    -- the packets on a link
    packets-fit : (c : ℕ) (packets : List Packet) → AllByRecursion (IsTypedPacket setting.protocol)
        packets
        → length packets ≤ c
        → Fits (1 + (c * 230 + 1)) (bracketed (map (packet_text setting.protocol.messages) packets))
    packets-fit c packets typed few =
        let count : length (map (packet_text setting.protocol.messages) packets) ≡ length packets =
        length-map packets (packet_text setting.protocol.messages) in
        fits-bracketed c 229 (map (packet_text setting.protocol.messages) packets)
        (AllByRecursion-map (Fits 229) (packet_text setting.protocol.messages) packets
        (λ place item there. packet-fits item
        (AllByRecursion-at (IsTypedPacket setting.protocol) packets place item typed there)))
        (omega (arith, count, few))

    remote_line-fits : (c : Config) (j : ℕ)
        → IsShaped setting c → j < count_of c → IsShownLine (remote_state_line setting.protocol c j)
    remote_line-fits c j shaped within =
        let whole = IsShaped-whole setting c shaped in
        let typed = (IsShaped-case setting c shaped j within).typed in
        let links = (shaped-bounded setting proper c shaped).links j within in
        let few : count_of c ≤ 64 = whole.few_remotes in
        let view = view_at setting.protocol c j in
        subst (λ (found : Option RemoteState).
        IsShownLine (option_map_or (remote_line_of setting.protocol c.links j) found []))
        (sym (slice_get-get_or c.remotes j nobody within))
        (shown 5089 _ (omega arith)
        (ends-after (fits-append (fits-literal (codes "remote ") refl) (fits-append
        (fits-decimal 2 j (omega arith) (omega (arith, within, few)) (omega (arith, within, few)))
        (fits-literal (codes " ") refl)))
        (ends-after (remote_place-fits view.remote.place)
        (ends-after (body_vars-fit side.Remote setting.protocol.messages setting.protocol.remote
        view.remote.vars
        proper.remote plain.remote typed.vars)
        (ends-after (fits-literal (codes " slot") refl)
        (ends-after (slot-fits view.remote.slot typed.slot)
        (ends-after (fits-literal (codes " up") refl)
        (ends-after (packets-fit 2 view.up typed.up links.up)
        (ends-after (fits-literal (codes " down") refl)
        (ends-after (packets-fit 3 view.down typed.down links.down) ends-here))))))))))

-- the line of the home
pub home-shown : (setting : Setting) (c : Config) → IsProper setting.protocol
    → IsPlain setting.protocol → IsShaped setting c
    → IsShownLine (home_state_line setting.protocol c)
home-shown setting c proper plain shaped =
    home_line-fits setting proper plain c shaped

-- the line of a remote
pub remote-shown : (setting : Setting) (c : Config) (j : ℕ) → IsProper setting.protocol
    → IsPlain setting.protocol → IsShaped setting c → j < count_of c
    → IsShownLine (remote_state_line setting.protocol c j)
remote-shown setting c j proper plain shaped within =
    remote_line-fits setting proper plain c j shaped within
