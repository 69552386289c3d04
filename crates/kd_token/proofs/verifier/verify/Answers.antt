use Rattle.kd_token.proofs.Ends.{fault_refuses, finish_alone, memory_alone, place_alone, steps_alone}
use Rattle.kd_token.proofs.verifier.verify.Goals as goal

pub returns-in-Ok-clause-place : goal.returns-in-Ok-clause-place
returns-in-Ok-clause-place c = λ at f. fault_refuses c.args.program at f c.in-Ok.ensures.judged

pub returns-in-Err-clause-only : goal.returns-in-Err-clause-only
returns-in-Err-clause-only c = λ a. memory_alone c.args.program c.in-Err.fault c.in-Err.ensures.judged a

pub returns-in-Err-clause-place : goal.returns-in-Err-clause-place
returns-in-Err-clause-place c = λ at f. place_alone c.args.program at c.in-Err.fault c.in-Err.ensures.judged f

pub returns-in-Err-clause-steps : goal.returns-in-Err-clause-steps
returns-in-Err-clause-steps c = λ s. steps_alone c.args.program c.in-Err.fault c.in-Err.ensures.judged s

pub returns-in-Err-clause-finish : goal.returns-in-Err-clause-finish
returns-in-Err-clause-finish c = λ s. finish_alone c.args.program c.in-Err.fault c.in-Err.ensures.judged s
