-- What is told of claims is what they say, in both directions.
use Rattle.rendezvous_meaning.proofs.BrokenClaims.{broken-none, none-broken, broken-first}
use Rattle.rendezvous_meaning.proofs.BrokenClaims.{first-broken}
use Rattle.rendezvous_meaning.proofs.laws.a_broken_claim_is_the_first_that_does_not_hold.Goals as goal

pub returns-clause-none : goal.returns-clause-none
returns-clause-none c = λ claims states. (broken-none claims states, none-broken claims states)

pub returns-clause-first : goal.returns-clause-first
returns-clause-first c = λ claims states number.
    (broken-first claims states number, first-broken claims states number)
