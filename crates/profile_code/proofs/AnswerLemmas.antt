-- From the end of a run to the answer of a call.
use Rattle.std.proofs.Common.{◌≡◌, ◌≢◌, ◌∙◌, ℕ, List, length, ℤ, sym}
use Rattle.lookup_table.specs.declared.part.Part.{Part}
use Rattle.profile_code.specs.Flat.{Flat, IsSafe, own_run, own_section, tags_of}
use Rattle.profile_code.specs.Held.{Held}
use Rattle.profile_code.specs.Machine.{Stuck, run_of}
use Rattle.profile_code.specs.Scratch.{HoldsGlobals, held_values}
use Rattle.profile_code.specs.Step.{given_of}
use Rattle.profile_code.specs.declared.instr.Instr.{Instr}
use Rattle.profile_code.specs.declared.scratch.Scratch.{Scratch}

module _ (flat : Flat) (part : Part) (numbers : List ℕ) (scratch : Scratch) (held : HoldsGlobals flat scratch) (fits :
    length numbers ≡ tags_of flat part) where
  -- a part's run in a scratch of its code lacks nothing, with the part's operations, the values that the scratch holds, and room for its
  -- own
  pub own_ready : (instrs : List Instr) (global : List ℤ) (own : Held) → IsSafe flat → instrs ≡ (own_section flat part).instrs
      → global ≡ held_values scratch → own.room ≡ length (own_section flat part).names
      → run_of (given_of numbers global scratch.stack own) instrs ≢ Stuck
  own_ready instrs global own safe instrs_are global_is most stuck =
      let same : run_of (given_of numbers global scratch.stack own) instrs ≡ own_run flat part numbers (held_values scratch) =
      λ i. run_of (record { room = held.made.stack i; most = most i; numbers = numbers; global = global_is i }) (instrs_are i) in
      safe.own part numbers (held_values scratch) fits held.values (sym same ∙ stuck)
