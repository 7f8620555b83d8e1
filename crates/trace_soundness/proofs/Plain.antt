-- Protocols whose names stand in one line.
use Rattle.std.specs.List.{AllByRecursion}
use Rattle.proto_model.specs.Numbered.{NumberedProtocol}
use Rattle.proto_model.specs.declared.numbered.Body.{Body}
use Rattle.schedule_replay.specs.TextLines.{HasNoLf}

-- No name of a variable or of a state holds an LF.
pub record IsPlainBody (body : Body) : Type 0 where
  pub vars : AllByRecursion (λ v. HasNoLf v.name) body.vars
  pub states : AllByRecursion (λ s. HasNoLf s.name) body.states

-- No name that the protocol declares holds an LF. So it is of each protocol that a file spells.
pub record IsPlain (protocol : NumberedProtocol) : Type 0 where
  pub messages : AllByRecursion (λ m. HasNoLf m.name) protocol.messages
  pub home : IsPlainBody protocol.home
  pub remote : IsPlainBody protocol.remote
