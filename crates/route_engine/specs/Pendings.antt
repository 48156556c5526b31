-- A request of any kind that is answered in turns. This project's own rule.
use Rattle.std.specs.Prelude.{ℕ, Result, Vec, length}
use Rattle.std.specs.declared.alloc.Global.{Global}
use Rattle.route_engine.specs.Askings.{IsTurnedOver, TurnsAs, turned_left}
use Rattle.route_engine.specs.CertificateJobs.{IsCertificateOn, certificate_plan, work_of_certificate}
use Rattle.route_engine.specs.Certificates.{IsCertificateFor, IsCertificateRefusal, certificate_reply, most_for_certificate}
use Rattle.route_engine.specs.Jobs.{IsJobOn, plan_in}
use Rattle.route_engine.specs.Labels.{most_labels}
use Rattle.route_engine.specs.NearbyAnswers.{IsNearbyFor, RefusesNearby, most_for_nearby, nearby_reply}
use Rattle.route_engine.specs.NearbyJobs.{IsNearbyOn, nearby_plan, work_of_nearby}
use Rattle.route_engine.specs.NearbyTexts.{IsNearbyText, nearby_comes_to, text_left}
use Rattle.route_engine.specs.Pieces.{IsInOnePiece, all_of, nothing_left}
use Rattle.route_engine.specs.Plans.{IsRefusal, IsTrackFor}
use Rattle.route_engine.specs.Replies.{reply_of}
use Rattle.route_engine.specs.Searches.{work_of_job}
use Rattle.route_engine.specs.TableAnswers.{most_for_costs, table_text}
use Rattle.route_engine.specs.TableJobs.{IsTableOn, table_plan, work_of_table}
use Rattle.route_engine.specs.Tables.{IsTable, IsTableRefusal}
use Rattle.route_engine.specs.declared.job.Job.{Job}
use Rattle.route_engine.specs.declared.pendings.Pending.{Pending}
use Rattle.route_engine.specs.declared.pendings.Pending.TheVariants.{Certificate, Track, Table, Within}
use Rattle.route_engine.specs.declared.table.TableJob.{TableJob}
use Rattle.route_ready.specs.Worlds.{WorldValue}
use Rattle.route_ready.specs.declared.error.RouteError.{RouteError}

-- it is over a world
abbrev pub IsPendingOver : WorldValue → Pending → Type 0
IsPendingOver world (Track t) = IsTurnedOver (IsJobOn world) (plan_in world) IsInOnePiece world t
IsPendingOver world (Table t) = IsTurnedOver (IsTableOn world) (table_plan world) IsInOnePiece world t
IsPendingOver world (Certificate t) = IsTurnedOver (IsCertificateOn world) (certificate_plan world) IsInOnePiece world t
IsPendingOver world (Within t) =
    IsTurnedOver (IsNearbyOn world) (nearby_plan world) (λ ready told. IsNearbyText world) world t

-- it may end so
abbrev pub EndsAs : WorldValue → Pending → Result (Vec ℕ Global) RouteError → Type 0
EndsAs world (Track t) end = TurnsAs IsTrackFor IsRefusal reply_of (plan_in world) all_of world t end
EndsAs world (Table t) end = TurnsAs IsTable IsTableRefusal table_text (table_plan world) all_of world t end
EndsAs world (Certificate t) end =
    TurnsAs IsCertificateFor IsCertificateRefusal certificate_reply (certificate_plan world) all_of world t end
EndsAs world (Within t) end =
    TurnsAs IsNearbyFor RefusesNearby nearby_reply (nearby_plan world) (nearby_comes_to world) world t end

-- how many turns of a budget are left
abbrev pub turns_of : WorldValue → (budget : ℕ) → Pending → ℕ
turns_of world budget (Track t) =
    turned_left (λ (job : Job). work_of_job (plan_in world job) job.stage) nothing_left (most_labels (length world.map.links)) world budget t
turns_of world budget (Table t) =
    turned_left (λ (job : TableJob). work_of_table (table_plan world job) job.stage) nothing_left most_for_costs world budget t
turns_of world budget (Certificate t) =
    turned_left (work_of_certificate world) nothing_left (most_for_certificate (length world.map.links)) world budget t
turns_of world budget (Within t) =
    turned_left (work_of_nearby world) (text_left world) (most_for_nearby (length world.map.nodes)) world budget t
