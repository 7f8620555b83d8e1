-- A request that comes up from a remote on which the home doesn't wait keeps the shape: it is kept,
-- displaces another one, or is nacked.
use Rattle.std.proofs.Common.{◌≡◌, ◌≢◌, ℕ, ◌<◌, false, List, [], ◌∷◌, ◌++◌, length, drop, Some}
use Rattle.std.proofs.Common.{None, refl, sym, ap, subst, ◌∙◌}
use Rattle.std.specs.Option.{option_map}
use Rattle.std.specs.List.{AllByRecursion}
use Rattle.rv_base.proofs.Lists.{AllByRecursion-push}
use Rattle.slot_reserve.specs.Requests.{first_of, last_of, displaced, HasNone}
use Rattle.slot_reserve.specs.declared.held.Held.{Held}
use Rattle.slot_reserve.proofs.HeldAfter.{first_of-push_own, first_of-push_other}
use Rattle.slot_reserve.proofs.Displaced.{first_of-displaced_last, first_of-displaced_other}
use Rattle.slot_reserve.proofs.DisplacedOwn.{first_of-last, last-elsewhere, first_of-displaced_own}
use Rattle.slot_reserve.proofs.HeldItems.{AllByRecursion-first_of}
use Rattle.slot_reserve.proofs.AdmissionRoom.{admits-room}
use Rattle.ordered_links.specs.Link.{Up, Down}
use Rattle.ordered_links.specs.Lists.{links_at}
use Rattle.ordered_links.specs.declared.packet.Packet.{Packet}
use Rattle.ordered_links.specs.declared.packet.Packet.TheVariants as packet
use Rattle.async_shape.specs.Setting.{Setting}
use Rattle.async_shape.specs.Config.{Config, count_of}
use Rattle.async_shape.specs.Requests.{is_waiting, completes}
use Rattle.async_shape.specs.Outcome.{at_home, put_on}
use Rattle.async_shape.specs.HomeSteps.{request_from, made_room, up_request}
use Rattle.async_shape.specs.Next.{config_after, home_moved}
use Rattle.async_shape.specs.View.{held_request, view_at}
use Rattle.async_shape.specs.Phase.{RequestGoes, RequestIsHeld, AnswerComes, IsInPhase}
use Rattle.async_shape.specs.Phase.{IsTypedMessage, IsTypedPacket, Case}
use Rattle.async_shape.specs.Shape.{IsWhole, IsShaped}
use Rattle.async_shape.specs.declared.config.Request.{Request}
use Rattle.async_shape.proofs.ArrivalInversion.{IsKept, IsRefused}
use Rattle.async_shape.proofs.Phases.{IsIn, held-phase}
use Rattle.async_shape.proofs.LinksAfter.{pair_put}
use Rattle.async_shape.proofs.HomeMoves.{view_left, IsHomeWhole-whole, IsShaped-home_between}
use Rattle.async_shape.proofs.HomeStepsKeep.{then_answer}
use Rattle.async_shape.proofs.ArrivedAtHome.{AreHeld-displaced, AreHeld-push, Keeps, again_by}
use Rattle.async_shape.proofs.ArrivedAtHome.{idle_place, kept_place, left_view, none_held}
use Rattle.async_shape.proofs.ArrivedAtHome.{option_none}

-- a request of j that is kept or nacked, where the home doesn't wait on j
module _ (setting : Setting) (c : Config) (j : ℕ) (right : IsWhole setting c)
    (within : j < count_of c) (case : Case setting (view_at setting.protocol c j)) (q : Request)
    (is : IsIn setting (view_at setting.protocol c j) (RequestGoes q))
    (free : (view_at setting.protocol c j).awaited ≡ None)
    (up : drop 1 (view_at setting.protocol c j).up ≡ [])
    (typed : IsTypedMessage setting.protocol q.message q.value) where
  -- the request as it is held
  abbrev request : Held
  request = request_from j q.message q.value

  -- no request of j is held
  no_request : HasNone j c.held
  no_request = none_held setting c j is.has.held

  -- what is left on the up link is typed
  typed_rest : AllByRecursion (IsTypedPacket setting.protocol)
      (drop 1 (view_at setting.protocol c j).up)
  typed_rest = subst (AllByRecursion (IsTypedPacket setting.protocol)) (sym up) tt

  -- the request is held, beside these
  held_phase : (held : List Held) → first_of j held ≡ Some request
      → IsInPhase setting (left_view setting c j (at_home c.home held None))
  held_phase held first = record {
    phase = RequestIsHeld q None;
    has = record {
      awaited = free;
      up = up;
      down = is.has.down;
      slot = is.has.slot;
      held = ap (option_map held_request) first;
      owed = is.has.owed;
    };
    fits = (is.fits, tt);
  }

  -- a request that is held keeps the shape
  pub kept_keeps : IsKept setting (count_of c) c.home c.held request
      → Keeps setting c j (up_request setting (count_of c) c.home c.held request)
  kept_keeps kept =
      let n = count_of c in
      let held = c.held ++ request ∷ [] in
      let room =
      admits-room setting.slots (length c.held) (is_waiting c.home.place)
      (completes n setting.protocol.home c.home request) kept.admitted in
      subst (Keeps setting c j) (sym kept.outcome) (record {
        put = tt;
        whole = record {
          debts = right.debts;
          place =
              kept_place setting.protocol setting.slots n c.home c.held request c.home.place room
              right.home;
          vars = right.home_vars;
          held_right =
              AreHeld-push setting.protocol setting.slots n c.held request room.room within
              no_request typed right.held;
        };
        alone = λ other apart. record {
          awaited = refl;
          first = first_of-push_other other c.held request (λ same. apart (sym same));
          owed = refl;
        };
        again =
            again_by setting c j c.home held case typed_rest
            (held_phase held (first_of-push_own c.held request no_request));
      })

  -- a request that is nacked keeps the shape
  pub refused_keeps : IsRefused setting (count_of c) c.home c.held request
      → Keeps setting c j (up_request setting (count_of c) c.home c.held request)
  refused_keeps refused =
      subst (Keeps setting c j) (sym refused.outcome) (record {
        put = refl;
        whole = IsHomeWhole-whole setting c right;
        alone = λ other apart. record { awaited = refl; first = refl; owed = refl };
        again = record {
          in_phase = record {
            phase = AnswerComes q None packet.Nack None;
            has = record {
              awaited = free;
              up = up;
              down = ap (λ (ps : List Packet). ps ++ packet.Nack ∷ []) is.has.down;
              slot = is.has.slot;
              held = is.has.held;
              owed = is.has.owed;
            };
            fits = (is.fits, tt, refl);
          };
          typed = record {
            place = case.typed.place;
            vars = case.typed.vars;
            slot = case.typed.slot;
            up = typed_rest;
            down = AllByRecursion-push (IsTypedPacket setting.protocol)
                (view_at setting.protocol c j).down packet.Nack case.typed.down tt;
          };
        };
      })

-- a request that displaces the last held one
module _ (setting : Setting) (c : Config) (j : ℕ) (shaped : IsShaped setting c)
    (right : IsWhole setting c) (within : j < count_of c)
    (case : Case setting (view_at setting.protocol c j)) (q : Request)
    (is : IsIn setting (view_at setting.protocol c j) (RequestGoes q))
    (free : (view_at setting.protocol c j).awaited ≡ None)
    (up : drop 1 (view_at setting.protocol c j).up ≡ [])
    (typed : IsTypedMessage setting.protocol q.message q.value) (last : Held)
    (there : last_of c.held ≡ Some last) where
  -- the request as it is held
  abbrev comer : Held
  comer = request_from j q.message q.value

  -- the last request is the one that is held of its sender
  last_found : first_of last.from c.held ≡ Some last
  last_found = first_of-last c.held last there right.held.one_of_each

  -- its sender is not j
  last_apart : last.from ≢ j
  last_apart =
      last-elsewhere j c.held last there right.held.one_of_each
      (option_none (first_of j c.held) is.has.held)

  -- its sender is there
  pub last_within : last.from < count_of c
  last_within =
      AllByRecursion-first_of (λ (r : Held). r.from < count_of c) last.from c.held last
      right.held.senders last_found

  -- the case of the remote whose request has made room: it is nacked
  nacked_case : Case setting (view_at setting.protocol c last.from)
      → Case setting
      (view_left setting.protocol c c.home (displaced c.held comer) last.from
      (pair_put (put_on (Down last.from) packet.Nack) (links_at c.links last.from)))
  nacked_case last_case =
      let v = view_at setting.protocol c last.from in
      let holds =
      held-phase setting v (held_request last) last_case.in_phase
      (ap (option_map held_request) last_found) in
      let old = holds.0 in
      let phase = holds.1 in
      let gone =
      first_of-displaced_last c.held last comer there right.held.one_of_each
      (λ same. last_apart (sym same)) in
      record {
        in_phase = record {
          phase = AnswerComes (held_request last) old packet.Nack None;
          has = record {
            awaited = phase.has.awaited;
            up = phase.has.up;
            down = ap (λ (ps : List Packet). ps ++ packet.Nack ∷ []) phase.has.down
                ∙ then_answer old packet.Nack;
            slot = phase.has.slot;
            held = ap (option_map held_request) gone;
            owed = phase.has.owed;
          };
          fits = (phase.fits.0, phase.fits.1, refl);
        };
        typed = record {
          place = last_case.typed.place;
          vars = last_case.typed.vars;
          slot = last_case.typed.slot;
          up = last_case.typed.up;
          down = AllByRecursion-push (IsTypedPacket setting.protocol) v.down packet.Nack
              last_case.typed.down tt;
        };
      }

  -- a request that displaces the last one keeps the shape
  pub displaced_shaped : is_waiting c.home.place ≡ false
      → Case setting (view_at setting.protocol c last.from)
      → IsShaped setting
      (config_after c (home_moved c (Some (Up j)) (made_room c.home c.held comer last)))
  displaced_shaped idle last_case =
      let n = count_of c in
      let none = none_held setting c j is.has.held in
      let first = first_of-displaced_own c.held last comer there none in
      IsShaped-home_between setting c (Some (Up j)) (made_room c.home c.held comer last) j last.from
      within last_within last_apart refl refl shaped
      (record {
        debts = right.debts;
        place =
            idle_place setting.protocol setting.slots n c.home c.held (displaced c.held comer)
            c.home.place idle right.home;
        vars = right.home_vars;
        held_right =
            AreHeld-displaced setting.protocol setting.slots n c.held last comer there within none
            typed right.held;
      })
      (λ other apart away. record {
        awaited = refl;
        first =
            first_of-displaced_other other c.held last comer there (λ same. away (sym same))
            (λ same. apart (sym same));
        owed = refl;
      })
      (again_by setting c j c.home (displaced c.held comer) case
      (typed_rest setting c j right within case q is free up typed)
      (held_phase setting c j right within case q is free up typed (displaced c.held comer) first))
      (nacked_case last_case)
