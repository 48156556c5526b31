-- Guides that are made for profiles that are kept: for which, and what they come to. This project's own rule.
use Rattle.std.specs.Prelude.{◌≡◌, ℕ, ◌==◌, ◌&&◌, ◌||◌, Bool, Some, length, nat_le, nat_lt}
use Rattle.std.specs.declared.alloc.Global.{Global}
use Rattle.std.specs.declared.rc.Rc.{Rc}
use Rattle.map_guides.specs.Guides.{IsGuideMaking}
use Rattle.overpass_graph.specs.Maps.{MapValue}
use Rattle.ride_bounds.specs.declared.guide.Guide.{Guide}
use Rattle.route_ready.specs.declared.ready.Ready.{Ready}
use Rattle.session_answers.specs.declared.guides.Target.{Target}
use Rattle.session_answers.specs.declared.kept.KeptProfiles.{KeptProfiles}
use Rattle.session_answers.specs.declared.key.Key.{Key}

-- how many profiles that are kept have a guide at most
abbrev pub most_of : KeptProfiles → ℕ
most_of kept = kept.guides.most

-- how many requests have to take a profile before a guide is made for it
abbrev pub guided_after : ℕ
guided_after = 20

-- whether a guide is to be made for the profile of a key: a given one without overrides, or one that enough
-- requests took
abbrev pub is_due : (key : Key) (uses given : ℕ) → Bool
is_due key uses given = (nat_lt key.place given && length key.overrides == 0) || nat_le guided_after uses

-- the guide of a profile that is ready, under a key, is made
pub record IsTargetFor (map : MapValue) (key : Key) (ready : Ready) (target : Target) : Type 0 where
  pub key_is : target.key ≡ key
  pub ready_is : target.ready.value ≡ ready
  pub making : IsGuideMaking map ready.bound.value target.making

-- a profile that is ready has this guide
pub record IsGuidedBy (guide : Guide) (ready : Ready) : Type 0 where
  pub shared : Rc Guide Global
  pub has : ready.guide ≡ Some shared
  pub is : shared.value ≡ guide
