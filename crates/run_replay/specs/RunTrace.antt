-- The trace of a schedule of steps: what the two controllers do at each of them, and what it means.
--
-- The block of a step is its number, one space, the step, `: ` and what is told of it. Where it
-- moved, the line of the home follows, if the step takes place at the home or a packet arrives
-- there in it; then the line of the remote that the step names, if it names one; and then the line
-- of the remote whose request it displaced, if it displaced one. These lines show the configuration
-- after the step. After the last block come the line `end`, the lines of the home and of all
-- remotes, the line `abstract`, and the rendezvous lines of what the last configuration stands for.
-- Where a claim is broken in what a configuration stands for, the line that says so stands before
-- `end`, and no further step is played.
use Rattle.std.specs.Prelude.{ℕ, Bool, true, false, List, [], ◌++◌, Option}
use Rattle.std.specs.Prelude.{codes}
use Rattle.std.specs.Option.{option_map_or}
use Rattle.proto_model.specs.Tokens.{Text}
use Rattle.proto_model.specs.Numbered.{NumberedProtocol, CheckedProtocol}
use Rattle.proto_model.specs.declared.mode.Mode.{Mode}
use Rattle.proto_model.specs.declared.numbered.NumberedClaim.{NumberedClaim}
use Rattle.rendezvous_meaning.specs.Claims.{remote_states, broken}
use Rattle.rendezvous_meaning.specs.Standing.{Standing}
use Rattle.schedule_replay.specs.Play.{Play}
use Rattle.schedule_replay.specs.RvPlay.{home_line, remote_lines}
use Rattle.async_shape.specs.Setting.{Setting}
use Rattle.async_shape.specs.Config.{Config, start}
use Rattle.async_shape.specs.Site.{Site, AtHome, AtRemote, UpFrom, DownTo, site, remote_named}
use Rattle.async_shape.specs.Next.{next, displaced_sender}
use Rattle.async_shape.specs.Run.{after_step}
use Rattle.async_shape.specs.declared.step.Step.{Step}
use Rattle.async_machine.specs.StepText.{step_text}
use Rattle.abstraction_map.specs.Abstraction.{abstraction}
use Rattle.abstraction_map.specs.Told.{told}
use Rattle.run_replay.specs.StepLines.{step_line}
use Rattle.run_replay.specs.StateLines.{home_state_line, remote_state_line, remote_state_lines}
use Rattle.run_replay.specs.ToldWords.{told_words}

-- ---- the lines after a step

-- the home's line follows a step that takes place here: at the home, or where a packet comes up
-- to it
abbrev pub shows_home : Site → Bool
shows_home (AtHome partner) = true
shows_home (AtRemote j) = false
shows_home (UpFrom j) = true
shows_home (DownTo j) = false

-- of a protocol whose controllers stand in this configuration
module _ (protocol : NumberedProtocol) (c : Config) where
  -- the line of the home, or none
  abbrev pub home_line_if : Bool → Text
  home_line_if true = home_state_line protocol c
  home_line_if false = []

  -- the line of this remote, if there is one
  abbrev pub remote_line_if : Option ℕ → Text
  remote_line_if remote = option_map_or (remote_state_line protocol c) remote []

  -- the lines that follow a step that moved, and that displaced the request of this remote, if of
  -- any
  abbrev pub lines_after : Step → Option ℕ → Text
  lines_after s displaced =
      home_line_if (shows_home (site s))
      ++ (remote_line_if (remote_named (site s)) ++ remote_line_if displaced)

  -- the rendezvous lines of what the configuration stands for
  abbrev pub abstract_lines : Text
  abstract_lines =
      let stands : Standing = record { protocol = protocol; config = abstraction protocol c } in
      home_line stands ++ remote_lines stands

  -- what stands after the last block
  abbrev pub run_ending : Text
  run_ending =
      codes "end\n"
      ++ (home_state_line protocol c
      ++ (remote_state_lines protocol c ++ (codes "abstract\n" ++ abstract_lines)))

-- ---- a run

-- What contracts see of a machine whose claims are looked at: these claims, what the controllers
-- were given, and the configuration in which they stand.
pub record Running : Type 0 where
  pub claims : List NumberedClaim
  pub setting : Setting
  pub config : Config

-- The controllers stand in the configuration after the step; one that isn't enabled changes
-- nothing.
abbrev pub running_after : Running → Step → Running
running_after running s = record {
  claims = running.claims;
  setting = running.setting;
  config = after_step running.setting running.config s;
}

-- what follows the words of a step that leads to this configuration, if it is enabled, and that
-- displaces the request of this remote, if of any
abbrev pub lines_if : NumberedProtocol → Step → Option ℕ → Option Config → Text
lines_if protocol s displaced after =
    option_map_or (λ d. lines_after protocol d s displaced) after []

-- the block of a step, behind its number
abbrev pub step_block : Running → Step → Text
step_block running s =
    let setting = running.setting in
    let c = running.config in
    let stands = abstraction setting.protocol c in
    step_text s
    ++ (codes ": " ++ (told_words setting.protocol stands (told setting c s)
    ++ (codes "\n"
    ++ lines_if setting.protocol s (displaced_sender setting c s) (next setting c s))))

-- the number of the first claim that is broken in what the configuration stands for
abbrev pub run_halts : Running → Option ℕ
run_halts running =
    broken running.claims (remote_states (abstraction running.setting.protocol running.config))

-- How a schedule of steps is played on the two controllers. The machine halts where a claim is
-- broken.
abbrev pub run_play : Play Running Step
run_play = record {
  says = step_line;
  after = running_after;
  block = step_block;
  ending = λ running. run_ending running.setting.protocol running.config;
  halts = run_halts;
}

-- the controllers of the protocol in this mode, with n remotes and k slots, at the start, and its
-- claims
abbrev pub run_start : CheckedProtocol → Mode → ℕ → ℕ → Running
run_start checked mode n k = record {
  claims = checked.claims;
  setting = record { protocol = checked.protocol; mode = mode; slots = k };
  config = start checked.protocol n;
}
