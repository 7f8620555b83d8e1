-- What the words after the program's name mean.
use Rattle.std.specs.Prelude.{ℕ, zero, suc, List, [], ◌∷◌, Option, Some, None, if◌then◌else◌, codes}
use Rattle.std.specs.Prelude.{String}
use Rattle.std.specs.declared.alloc.Global.{Global}
use Rattle.std.specs.Option.{option_map, option_and_then}
use Rattle.std.specs.Str.{bytes_eq}
use Rattle.rv_base.specs.Numbers.{number_of}
use Rattle.proto_model.specs.declared.mode.Mode.{Mode}
use Rattle.proto_model.specs.declared.mode.Mode.TheVariants.{Plain, Lean}
use Rattle.rvc_top.specs.declared.command.Command.{Command}
use Rattle.rvc_top.specs.declared.command.Command.TheVariants.{Print, Check, Rv, Run, Drive}
use Rattle.rvc_top.specs.declared.command.Command.TheVariants.{TableText}
use Rattle.rvc_top.specs.declared.command.Command.TheVariants.{TableJson, Example as ExampleText}
use Rattle.rvc_top.specs.declared.command.Command.TheVariants.{Lossy, Store, Boot, Audit, Lines}
use Rattle.rvc_top.specs.declared.command.Driving.{Driving}
use Rattle.rvc_top.specs.declared.example.Example.{Example}
use Rattle.rvc_top.specs.declared.example.Example.TheVariants.{Migratory, Invalidate}

-- The words after the program's name.
abbrev pub Words : Type 0
Words = List (String Global)

-- no command has 0 remotes or 0 cache lines
abbrev pub unless_zero : ℕ → Option ℕ
unless_zero zero = None
unless_zero (suc n) = Some (suc n)

-- a number of remotes: from 1 to 64, in decimal without leading zeros
abbrev pub remotes_of : List ℕ → Option ℕ
remotes_of word = option_and_then unless_zero (number_of word 64)

-- a number of cache lines: from 1 to 16, in decimal without leading zeros
abbrev pub cache_lines_of : List ℕ → Option ℕ
cache_lines_of word = option_and_then unless_zero (number_of word 16)

-- no home has fewer than 2 slots
abbrev pub enough_slots : ℕ → Option ℕ
enough_slots zero = None
enough_slots (suc zero) = None
enough_slots (suc (suc k)) = Some (suc (suc k))

-- a number of slots: from 2 to 64, in decimal without leading zeros
abbrev pub slots_of : List ℕ → Option ℕ
slots_of word = option_and_then enough_slots (number_of word 64)

-- a mode: 'plain' or 'lean'
abbrev pub mode_of : List ℕ → Option Mode
mode_of word = if bytes_eq word (codes "plain") then Some Plain else
    (if bytes_eq word (codes "lean") then Some Lean else None)

-- an example: 'migratory' or 'invalidate'
abbrev pub example_of : List ℕ → Option Example
example_of word =
    if bytes_eq word (codes "migratory") then Some Migratory else
    (if bytes_eq word (codes "invalidate") then Some Invalidate else None)

-- 'run' and these words: a number of remotes, a number of slots and a mode
abbrev pub run_of : List ℕ → List ℕ → List ℕ → Option Command
run_of n k mode =
    option_and_then (λ remotes. option_and_then (λ slots.
    option_map (λ m. Run remotes slots m) (mode_of mode)) (slots_of k)) (remotes_of n)

-- 'lossy' and these words: a number of remotes, a number of slots and a mode
abbrev pub lossy_of : List ℕ → List ℕ → List ℕ → Option Command
lossy_of n k mode =
    option_and_then (λ remotes. option_and_then (λ slots.
    option_map (λ m. Lossy remotes slots m) (mode_of mode)) (slots_of k)) (remotes_of n)

-- 'boot' and these words: a number of remotes and a number of slots
abbrev pub boot_of : List ℕ → List ℕ → Option Command
boot_of n k =
    option_and_then (λ remotes. option_map (λ slots. Boot remotes slots) (slots_of k))
    (remotes_of n)

-- 'lines' and these words: a number of remotes, a number of slots, a mode and a number of cache
-- lines
abbrev pub lines_of : List ℕ → List ℕ → List ℕ → List ℕ → Option Command
lines_of n k mode count =
    option_and_then (λ remotes. option_and_then (λ slots. option_and_then (λ m.
    option_map (λ lines. Lines remotes slots m lines) (cache_lines_of count)) (mode_of mode))
    (slots_of k)) (remotes_of n)

-- a run that a number chooses, of these numbers and in this mode
abbrev pub driving : ℕ → ℕ → Mode → ℕ → ℕ → Driving
driving n k m count x =
    record { remotes = n; slots = k; mode = m; turns = count; seed = x }

-- 'drive' and these words: a number of remotes, a number of slots, a mode, a number of turns from 0
-- to 100,000, and a seed below 2^64
abbrev pub drive_of : List ℕ → List ℕ → List ℕ → List ℕ → List ℕ → Option Command
drive_of n k mode turns seed =
    option_and_then (λ remotes. option_and_then (λ slots. option_and_then (λ m.
    option_and_then (λ count.
    option_map (λ x. Drive (driving remotes slots m count x)) (number_of seed 18446744073709551615))
    (number_of turns 100000)) (mode_of mode)) (slots_of k)) (remotes_of n)

-- The forms of the words: 'print' PATH, 'check' PATH, 'rv' PATH N, 'run' PATH N K MODE, 'drive'
-- PATH N K MODE COUNT SEED, 'lossy' PATH N K MODE, 'store' PATH MODE, 'boot' PATH N K, 'audit' PATH
-- N, 'lines' PATH N K MODE C, 'table' PATH MODE, 'json' PATH MODE and 'example' NAME, where PATH is
-- any word, N a number of remotes, K a number of slots, MODE a mode, COUNT a number of turns, SEED
-- a number below 2^64, C a number of cache lines, and NAME an example. Other words have no form.
abbrev pub meaning : List (List ℕ) → Option Command
meaning [] = None
meaning (name ∷ []) = None
meaning (name ∷ second ∷ []) =
    if bytes_eq name (codes "print") then Some Print
    else (if bytes_eq name (codes "check") then Some Check
    else (if bytes_eq name (codes "example") then option_map (λ which. ExampleText which)
    (example_of second) else None))
meaning (name ∷ path ∷ third ∷ []) =
    if bytes_eq name (codes "rv") then option_map (λ remotes. Rv remotes) (remotes_of third)
    else (if bytes_eq name (codes "audit") then option_map (λ remotes. Audit remotes)
    (remotes_of third)
    else (if bytes_eq name (codes "store") then option_map (λ mode. Store mode) (mode_of third)
    else (if bytes_eq name (codes "table") then option_map (λ mode. TableText mode) (mode_of third)
    else (if bytes_eq name (codes "json") then option_map (λ mode. TableJson mode) (mode_of third)
    else None))))
meaning (name ∷ path ∷ third ∷ fourth ∷ []) =
    if bytes_eq name (codes "boot") then boot_of third fourth else None
meaning (name ∷ path ∷ third ∷ fourth ∷ fifth ∷ []) =
    if bytes_eq name (codes "run") then run_of third fourth fifth
    else (if bytes_eq name (codes "lossy") then lossy_of third fourth fifth else None)
meaning (name ∷ path ∷ third ∷ fourth ∷ fifth ∷ sixth ∷ []) =
    if bytes_eq name (codes "lines") then lines_of third fourth fifth sixth else None
meaning (name ∷ path ∷ third ∷ fourth ∷ fifth ∷ sixth ∷ seventh ∷ []) =
    if bytes_eq name (codes "drive") then drive_of third fourth fifth sixth seventh else None
meaning (name ∷ path ∷ third ∷ fourth ∷ fifth ∷ sixth ∷ seventh ∷ word ∷ more) = None
