-- The lines read so far were played, and their blocks are written or kept.
use Rattle.std.proofs.Common.{◌≡◌, ℕ, ◌+◌, ◌<◌, ◌≤◌, List, [], ◌∷◌, ◌++◌, length, take, drop}
use Rattle.std.proofs.Common.{false, Some, None, inl, inr, arith, refl, sym}
use Rattle.std.proofs.Common.{◌∙◌, ap, append_assoc, length-append}
use Rattle.std.proofs.lemmas.List.{append-nil, take-append-drop}
use Rattle.std.specs.declared.option.Option.{Option}
use Rattle.std.specs.Io.KnownBytes.{append_known}
use Rattle.rv_base.proofs.Moved.{append_known-append}
use Rattle.schedule_replay.specs.TextLines.{lines_of}
use Rattle.schedule_replay.specs.Play.{Play}
use Rattle.schedule_replay.specs.Played.{Stop, AtEnd, AtLine, TooMany, Halted, Played, stopped}
use Rattle.schedule_replay.specs.Played.{behind, unless_halted, numbered_block, line_then}
use Rattle.schedule_replay.specs.Played.{last_text, played_lines, played_from, played_text}
use Rattle.schedule_replay.specs.Played.{trace}
use Rattle.schedule_replay.specs.Turns.{PutsFront, Moved, Cut}
use Rattle.schedule_replay.specs.declared.limits.Limits.{Limits}
use Rattle.schedule_replay.specs.declared.player.Meaning.{Meaning}
use Rattle.schedule_replay.specs.declared.player.Meaning.TheVariants.{Blank, Says, Bad}
use Rattle.schedule_replay.proofs.WithinLimits.{few-lines, many-lines, short-line, long-line}

append_known-nil : (known : Option (List ℕ)) → append_known known [] ≡ known
append_known-nil None = refl
append_known-nil (Some bytes) = ap (λ (more : List ℕ). Some more) (append-nil bytes)

pub puts-none : (now : Option (List ℕ)) (kept : List ℕ) → PutsFront now kept now
puts-none now kept = (0, sym (append_known-nil now))

behind-append : {State : Type 0} (front block : List ℕ) (later : Played State)
    → behind front (behind block later) ≡ behind (front ++ block) later
behind-append front block later =
    ap (λ (blocks : List ℕ). record { blocks = blocks; state = later.state; stop = later.stop })
    (sym (append_assoc front block later.blocks))

module _ {State Item : Type 0} (play : Play State Item) (limits : Limits) (start : State) where
  -- These texts were written since the start, and what is kept stands behind them: together they
  -- are the blocks of those lines. Whatever lines follow are played from this state.
  pub record Plays (before now : Option (List ℕ)) (kept : List ℕ) (state : State) (count : ℕ)
      (done : List (List ℕ)) : Type 0 where
    pub gone : List ℕ
    pub written : now ≡ append_known before gone
    pub follows : (more : List (List ℕ)) → played_from play limits start (done ++ more) ≡ behind
        (gone ++ kept) (played_lines play limits (length done) count state more)
    pub few : count ≤ length done

  -- The schedule of these lines ends so, in this state. What was written and what is kept are its
  -- blocks.
  pub record Ends (before now : Option (List ℕ)) (kept : List ℕ) (state : State)
      (lines : List (List ℕ)) (stop : Stop) : Type 0 where
    pub gone : List ℕ
    pub written : now ≡ append_known before gone
    pub ends : played_from play limits start lines ≡ behind (gone ++ kept) (stopped state stop)

  start-goes : (halts : Option ℕ) → halts ≡ None → (more : List (List ℕ))
      → unless_halted halts 0 start (played_lines play limits 0 0 start more)
      ≡ played_lines play limits 0 0 start more
  start-goes halts none more = rw none refl

  pub Plays-start : (before : Option (List ℕ)) → play.halts start ≡ None
      → Plays before before [] start 0 []
  Plays-start before none = record {
    gone = [];
    written = sym (append_known-nil before);
    follows = λ more. start-goes (play.halts start) none more;
    few = omega arith;
  }

  pub Ends-start : (before : Option (List ℕ)) (lines : List (List ℕ)) (claim : ℕ)
      → play.halts start ≡ Some claim → Ends before before [] start lines (Halted 0 claim)
  Ends-start before lines claim halts = record {
    gone = [];
    written = sym (append_known-nil before);
    ends = rw halts refl;
  }

  -- one more line, which is not too long
  one-more : (count : ℕ) (state : State) (done : List (List ℕ)) (line : List ℕ)
      (more : List (List ℕ)) (meaning : Meaning Item) → length done < limits.lines
      → length line ≤ limits.line → play.says line ≡ meaning
      → played_lines play limits (length done) count state (line ∷ more)
      ≡ line_then play false false meaning (length done) count state
      (λ number next. played_lines play limits (length done + 1) number next more)
  one-more count state done line more meaning few fits means =
      rw (few-lines limits.lines (length done) few, short-line limits.line line fits, means) refl

  snoc-length : (done : List (List ℕ)) (line : List ℕ)
      → length (done ++ line ∷ []) ≡ length done + 1
  snoc-length done line = omega (arith, length-append done (line ∷ []))

  -- what follows one more line
  follows-line : (before now : Option (List ℕ)) (kept : List ℕ) (state : State) (count : ℕ)
      (done : List (List ℕ)) (line : List ℕ) (meaning : Meaning Item)
      (h : Plays before now kept state count done) → length done < limits.lines
      → length line ≤ limits.line → play.says line ≡ meaning
      → (more : List (List ℕ)) → played_from play limits start ((done ++ line ∷ []) ++ more)
      ≡ behind (h.gone ++ kept) (line_then play false false meaning (length done) count state
      (λ number next. played_lines play limits (length (done ++ line ∷ [])) number next more))
  follows-line before now kept state count done line meaning h few fits means more =
      let later : ℕ → Played State = λ n. line_then play false false meaning (length done)
      count state (λ number next. played_lines play limits n number next more) in
      ap (played_from play limits start) (append_assoc done (line ∷ []) more)
      ∙ (h.follows (line ∷ more) ∙ ap (behind (h.gone ++ kept))
      (one-more count state done line more meaning few fits means
      ∙ ap later (sym (snoc-length done line))))

  -- a blank line
  pub Plays-blank : (before now : Option (List ℕ)) (kept : List ℕ) (state : State) (count : ℕ)
      (done : List (List ℕ)) (line : List ℕ) → Plays before now kept state count done
      → length done < limits.lines → length line ≤ limits.line → play.says line ≡ Blank
      → Plays before now kept state count (done ++ line ∷ [])
  Plays-blank before now kept state count done line h few fits means = record {
    gone = h.gone;
    written = h.written;
    follows = follows-line before now kept state count done line Blank h few fits means;
    few = omega (arith, h.few, snoc-length done line);
  }

  -- an item was played that follows those lines
  item-follows : (gone kept block : List ℕ) (halts : Option ℕ) (lines : ℕ) (new : State)
      (later : Played State) → halts ≡ None
      → behind (gone ++ kept) (behind block (unless_halted halts lines new later)) ≡ behind
      (gone ++ (kept ++ block)) later
  item-follows gone kept block halts lines new later none =
      rw none (behind-append (gone ++ kept) block later
      ∙ ap (λ text. behind text later) (append_assoc gone kept block))

  pub Plays-item : (before now : Option (List ℕ)) (kept : List ℕ) (state : State) (count : ℕ)
      (done : List (List ℕ)) (line : List ℕ) (item : Item) → Plays before now kept state count done
      → length done < limits.lines → length line ≤ limits.line → play.says line ≡ Says item
      → play.halts (play.after state item) ≡ None → Plays before now
      (kept ++ numbered_block play count state item) (play.after state item) (count + 1)
      (done ++ line ∷ [])
  Plays-item before now kept state count done line item h few fits means none = record {
    gone = h.gone;
    written = h.written;
    follows = λ more. follows-line before now kept state count done line (Says item)
        h few fits means more
        ∙ item-follows h.gone kept (numbered_block play count state item)
        (play.halts (play.after state item)) (length done + 1) (play.after state item)
        (played_lines play limits (length (done ++ line ∷ [])) (count + 1) (play.after state item)
        more) none;
    few = omega (arith, h.few, snoc-length done line);
  }

  halt-follows : (gone kept block : List ℕ) (halts : Option ℕ) (lines claim : ℕ) (new : State)
      (later : Played State) → halts ≡ Some claim
      → behind (gone ++ kept) (behind block (unless_halted halts lines new later)) ≡ behind
      (gone ++ (kept ++ block)) (stopped new (Halted lines claim))
  halt-follows gone kept block halts lines claim new later is =
      rw is (behind-append (gone ++ kept) block (stopped new (Halted lines claim))
      ∙ ap (λ text. behind text (stopped new (Halted lines claim)))
      (append_assoc gone kept block))

  -- the machine halts after an item
  pub Ends-item : (before now : Option (List ℕ)) (kept : List ℕ) (state : State) (count : ℕ)
      (done : List (List ℕ)) (line : List ℕ) (item : Item) (claim : ℕ)
      → Plays before now kept state count done → length done < limits.lines
      → length line ≤ limits.line → play.says line ≡ Says item
      → play.halts (play.after state item) ≡ Some claim → (more : List (List ℕ))
      → Ends before now (kept ++ numbered_block play count state item) (play.after state item)
      ((done ++ line ∷ []) ++ more) (Halted (length done + 1) claim)
  Ends-item before now kept state count done line item claim h few fits means halts more = record {
    gone = h.gone;
    written = h.written;
    ends = follows-line before now kept state count done line (Says item) h few fits means more
        ∙ halt-follows h.gone kept (numbered_block play count state item)
        (play.halts (play.after state item)) (length done + 1) claim (play.after state item)
        (played_lines play limits (length (done ++ line ∷ [])) (count + 1) (play.after state item)
        more) halts;
  }

  -- a malformed line
  pub Ends-bad : (before now : Option (List ℕ)) (kept : List ℕ) (state : State) (count : ℕ)
      (done : List (List ℕ)) (line : List ℕ) → Plays before now kept state count done
      → length done < limits.lines → length line ≤ limits.line → play.says line ≡ Bad
      → (more : List (List ℕ))
      → Ends before now kept state ((done ++ line ∷ []) ++ more) (AtLine (length done + 1))
  Ends-bad before now kept state count done line h few fits means more = record {
    gone = h.gone;
    written = h.written;
    ends = follows-line before now kept state count done line Bad h few fits means more;
  }

  -- a line that is too long
  pub Ends-long : (before now : Option (List ℕ)) (kept : List ℕ) (state : State) (count : ℕ)
      (done : List (List ℕ)) (line : List ℕ) (more : List (List ℕ))
      → Plays before now kept state count done → length done < limits.lines
      → limits.line < length line
      → Ends before now kept state (done ++ line ∷ more) (AtLine (length done + 1))
  Ends-long before now kept state count done line more h few long = record {
    gone = h.gone;
    written = h.written;
    ends = h.follows (line ∷ more) ∙ ap (behind (h.gone ++ kept))
        (rw (few-lines limits.lines (length done) few, long-line limits.line line long) refl);
  }

  -- a line too many
  pub Ends-many : (before now : Option (List ℕ)) (kept : List ℕ) (state : State) (count : ℕ)
      (done : List (List ℕ)) (line : List ℕ) (more : List (List ℕ))
      → Plays before now kept state count done → length done ≡ limits.lines
      → Ends before now kept state (done ++ line ∷ more) TooMany
  Ends-many before now kept state count done line more h full = record {
    gone = h.gone;
    written = h.written;
    ends = h.follows (line ∷ more) ∙ ap (behind (h.gone ++ kept))
        (rw (many-lines limits.lines (length done) (omega (arith, full))) refl);
  }

  -- no further line
  pub Ends-whole : (before now : Option (List ℕ)) (kept : List ℕ) (state : State) (count : ℕ)
      (done : List (List ℕ)) → Plays before now kept state count done
      → Ends before now kept state done AtEnd
  Ends-whole before now kept state count done h = record {
    gone = h.gone;
    written = h.written;
    ends = ap (played_from play limits start) (sym (append-nil done)) ∙ h.follows [];
  }

  -- a front of what is kept was written
  pub Plays-moved : (before now after : Option (List ℕ)) (kept moved rest : List ℕ) (state : State)
      (count : ℕ) (done : List (List ℕ)) → Plays before now kept state count done
      → kept ≡ moved ++ rest → after ≡ append_known now moved
      → Plays before after rest state count done
  Plays-moved before now after kept moved rest state count done h same wrote = record {
    gone = h.gone ++ moved;
    written = wrote ∙ (ap (λ known. append_known known moved) h.written
        ∙ append_known-append before h.gone moved);
    follows = λ more. h.follows more ∙ ap (λ text. behind text
        (played_lines play limits (length done) count state more)) (ap (λ text. h.gone ++ text) same
        ∙ sym (append_assoc h.gone moved rest));
    few = h.few;
  }

  -- what is kept was written before the next line was asked for, or nothing was
  pub Plays-asked : (before now after : Option (List ℕ)) (kept rest : List ℕ) (state : State)
      (count : ℕ) (done : List (List ℕ)) → Plays before now kept state count done
      → Moved kept rest now after
      → Plays before after rest state count done
  Plays-asked before now after kept rest state count done h (inl (same, stays)) =
      Plays-moved before now after kept [] rest state count done h (sym same) (stays
      ∙ sym (append_known-nil now))
  Plays-asked before now after kept rest state count done h (inr (none, wrote)) =
      Plays-moved before now after kept kept rest state count done h
      (sym (ap (λ more. kept ++ more) none ∙ append-nil kept)) wrote

  -- a front of what is kept was written, whatever lines follow
  pub Plays-cut : (before now after : Option (List ℕ)) (kept : List ℕ) (state : State) (count : ℕ)
      (done more : List (List ℕ)) (text : List ℕ) → Plays before now kept state count done
      → lines_of text ≡ done ++ more → PutsFront now kept after
      → Cut play limits start text before after
  Plays-cut before now after kept state count done more text h lines (part, wrote) =
      let later = played_lines play limits (length done) count state more in
      let rest = later.blocks ++ last_text play later.state later.stop in
      let cut : kept ≡ take part kept ++ drop part kept = sym (take-append-drop part kept) in
      let all : trace play limits start text ≡ h.gone ++ (kept ++ rest) =
      ap (λ ls. played_text play (played_from play limits start ls)) lines
      ∙ (ap (played_text play) (h.follows more)
      ∙ (append_assoc (h.gone ++ kept) later.blocks (last_text play later.state later.stop)
      ∙ append_assoc h.gone kept rest)) in
      record {
        gone = h.gone ++ take part kept;
        rest = drop part kept ++ rest;
        written = wrote ∙ (ap (λ known. append_known known (take part kept)) h.written
            ∙ append_known-append before h.gone (take part kept));
        front = all ∙ (ap (λ front. h.gone ++ (front ++ rest)) cut
            ∙ (ap (λ bytes. h.gone ++ bytes) (append_assoc (take part kept) (drop part kept) rest)
            ∙ sym (append_assoc h.gone (take part kept) (drop part kept ++ rest))));
      }
