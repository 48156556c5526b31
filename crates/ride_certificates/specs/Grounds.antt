-- What the legs of a request go over and between (this project's own rule).
use Rattle.std.specs.Prelude.{ℕ, ◌+◌, List, get_or}
use Rattle.cost_model.specs.Rides.{Leg, Setting, leg_between}
use Rattle.route_engine.specs.Settings.{IsSettingOf, Question, open_map_of}
use Rattle.route_engine.specs.Waypoints.{AreNodes}

-- the legs of a question go over this setting, and between these nodes of its waypoints
pub record HasLegs (question : Question) (setting : Setting) (nodes : List ℕ) : Type 0 where
  pub over : IsSettingOf question setting
  pub are : AreNodes (open_map_of setting) question.asked.waypoints nodes

-- the leg of a number: from the node of that number to the one after it
abbrev pub leg_of : (setting : Setting) (nodes : List ℕ) (number : ℕ) → Leg
leg_of setting nodes number = leg_between setting (get_or nodes number 0) (get_or nodes (number + 1) 0)
