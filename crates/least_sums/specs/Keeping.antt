-- How sums by node are kept: a number that is more than every sum stands for none (this project's own rule).
use Rattle.std.specs.Prelude.{ℕ, List, map, Option, Some, None, if◌then◌else◌, nat_lt}
use Rattle.least_sums.specs.declared.sums.Kept.{Kept}
use Rattle.least_sums.specs.declared.sums.Kept.TheVariants.{Narrow, Wide, Near}
use Rattle.least_sums.specs.declared.amount.TheConstants.{NARROW_FAR, WIDE_FAR}
use Rattle.least_sums.specs.Sums.{NodeSums}

-- the sum that a number stands for, none from this one on
abbrev pub seen_below : ℕ → ℕ → Option ℕ
seen_below far number = if nat_lt number far then Some number else None

-- what a number stands for up to a radius: itself, or the radius where that is no more
abbrev pub seen_up_to : ℕ → ℕ → Option ℕ
seen_up_to radius number = Some (if nat_lt number radius then number else radius)

-- the sums that are kept
abbrev pub kept_sums : Kept → List (Option ℕ)
kept_sums (Narrow sums) = map (seen_below NARROW_FAR) sums
kept_sums (Wide sums) = map (seen_below WIDE_FAR) sums
kept_sums (Near sums radius) = map (seen_up_to radius) sums

-- the radius up to which they were found; none where all were
abbrev pub kept_radius : Kept → Option ℕ
kept_radius (Narrow sums) = None
kept_radius (Wide sums) = None
kept_radius (Near sums radius) = Some radius

-- what is kept, as sums and their radius
abbrev pub kept_value : Kept → NodeSums
kept_value kept = record { sums = kept_sums kept; radius = kept_radius kept }
