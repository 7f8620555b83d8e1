-- The steps that are enabled, in order; and what it means that there are none.
use Rattle.std.specs.Prelude.{ℕ, List, ◌++◌, map, filter, flat_map}
use Rattle.std.specs.List.{range_with_len}
use Rattle.proto_model.specs.Numbered.{NumberedProtocol}
use Rattle.proto_model.specs.Proper.{most_guards}
use Rattle.proto_model.specs.Rendezvous.{RvStep}
use Rattle.proto_model.specs.declared.rendezvous.RvConfig.{RvConfig}
use Rattle.proto_model.specs.declared.rendezvous.Event.{Event}
use Rattle.async_shape.specs.Setting.{Setting}
use Rattle.async_shape.specs.Config.{Config, count_of}
use Rattle.async_shape.specs.Next.{is_enabled}
use Rattle.async_shape.specs.declared.step.Step.{Step}
use Rattle.async_shape.specs.declared.step.Step.TheVariants as step

-- the steps of this form with each number below n
abbrev pub steps_below : ℕ → (ℕ → Step) → List Step
steps_below n form = map form (range_with_len 0 n)

-- the steps of this form with each first number below m and each second one below n, by the first
-- and then by the second
abbrev pub steps_of_two : ℕ → ℕ → (ℕ → ℕ → Step) → List Step
steps_of_two m n form = flat_map (λ a. steps_below n (form a)) (range_with_len 0 m)

-- All steps with these numbers of n remotes, in the order of the kinds of step, and then by their
-- numbers.
unfoldable pub all_steps : ℕ → List Step
all_steps n =
    steps_below most_guards (λ g. step.HomeTau g)
    ++ (steps_below n (λ j. step.HomeTake j)
    ++ (steps_of_two most_guards n (λ g j. step.HomeSend g j)
    ++ (steps_below n (λ j. step.HomeDrop j)
    ++ (steps_of_two n most_guards (λ j g. step.RemoteTau j g)
    ++ (steps_below n (λ j. step.RemoteSend j)
    ++ (steps_below n (λ j. step.RemoteAnswer j)
    ++ (steps_below n (λ j. step.RemoteReply j)
    ++ (steps_below n (λ j. step.Up j)
    ++ steps_below n (λ j. step.Down j)))))))))

-- The steps that are enabled in a configuration, in this order.
abbrev pub ready_list : Setting → Config → List Step
ready_list setting c = filter (is_enabled setting c) (all_steps (count_of c))

-- No event takes place in this configuration of the rendezvous meaning.
abbrev pub IsStill : NumberedProtocol → RvConfig → Type 0
IsStill protocol config = (e : Event) (next : RvConfig) → RvStep protocol config e next → ⊥
