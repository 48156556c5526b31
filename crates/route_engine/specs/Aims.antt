-- What a request may be asked for, and what answers it.
use Rattle.std.specs.Prelude.{ℕ, ◌+◌, List, Result, Err, length}
use Rattle.overpass_graph.specs.Maps.{MapValue}
use Rattle.route_engine.specs.Answers.{IsAnswer, IsAnswerOf}
use Rattle.route_engine.specs.Certificates.{IsCertificateFor, IsCertificateRefusal, IsCertificateReply, certificate_reply, most_for_certificate}
use Rattle.route_engine.specs.Labels.{most_labels}
use Rattle.route_engine.specs.NearbyAnswers.{IsNearbyAnswer, IsNearbyReply, TellsNearby, most_for_nearby}
use Rattle.route_engine.specs.Placings.{placing_for}
use Rattle.route_engine.specs.Replies.{IsReply, Tells, TellsOn}
use Rattle.route_engine.specs.Settings.{Question}
use Rattle.route_engine.specs.TableAnswers.{IsTableAnswer, IsTableReply, TellsTable, most_for_costs}
use Rattle.route_engine.specs.declared.aim.Aim.{Aim}
use Rattle.route_engine.specs.declared.aim.Aim.TheVariants.{Certificate, Track, Table, Within}
use Rattle.route_http.specs.Asked.{Asked}
use Rattle.route_ready.specs.declared.error.RouteError.{RouteError}

-- these bytes are the reply to a question
abbrev pub IsReplyTo : Aim → Question → List ℕ → Type 0
IsReplyTo Track question bytes = IsReply question bytes
IsReplyTo Table question bytes = IsTableReply question bytes
IsReplyTo Certificate question bytes = IsCertificateReply question bytes
IsReplyTo Within question bytes = IsNearbyReply question bytes

-- a question has none, for this reason
abbrev pub IsRefusalTo : Aim → Question → RouteError → Type 0
IsRefusalTo Track question e = IsAnswer question (Err e)
IsRefusalTo Table question e = IsTableAnswer question (Err e)
IsRefusalTo Certificate question e = IsAnswerOf IsCertificateFor IsCertificateRefusal question (Err e)
IsRefusalTo Within question e = IsNearbyAnswer question (Err e)

-- a call gives the reply, or why there is none, or reports want of memory
abbrev pub TellsTo : Aim → Question → Result (List ℕ) RouteError → Type 0
TellsTo Track question result = Tells question result
TellsTo Table question result = TellsTable question result
TellsTo Certificate question result =
    TellsOn IsCertificateFor IsCertificateRefusal certificate_reply question result
TellsTo Within question result = TellsNearby question result

-- the most that is counted for what is asked on a map, once its waypoints have their nodes
abbrev pub searching_for : MapValue → Aim → Asked → ℕ
searching_for map Track asked = most_labels (length map.links) asked
searching_for map Table asked = most_for_costs asked
searching_for map Certificate asked = most_for_certificate (length map.links) asked
searching_for map Within asked = most_for_nearby (length map.nodes) asked

-- the most that is counted for what is asked on a map; crates above cite it by this name alone, so the sum may grow
abbrev pub most_for : MapValue → Aim → Asked → ℕ
most_for map aim asked = placing_for (length map.links) asked + searching_for map aim asked
