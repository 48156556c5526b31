-- The scratch stays one of this code, with the values of the global section.
use Rattle.profile_code.specs.Scratch.{HoldsGlobals}
use Rattle.map_cases.proofs.timed.profile.sum_of.Given as goal

abbrev pub invariant-ways : goal.invariant-ways
invariant-ways l = HoldsGlobals l.code l.scratch
