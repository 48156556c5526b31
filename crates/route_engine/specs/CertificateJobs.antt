-- What a job of a certificate stands for, and what its steps come to. This project's own rule.
use Rattle.std.specs.Prelude.{◌≡◌, ℕ, suc, ◌+◌, ◌-◌, ◌*◌, ◌<◌, ◌≤◌, List, length, Option, Some, None, Result}
use Rattle.certificate_text.specs.declared.certificate.Certificate.{Certificate}
use Rattle.certificate_text.specs.declared.certificate.LowerBound.TheVariants.{Least}
use Rattle.certificate_text.specs.declared.certificate.Proof.{Proof}
use Rattle.item_list.specs.Turns.{Says}
use Rattle.item_list.specs.declared.turn.Turn.{Turn}
use Rattle.route_certificate.specs.Provings.{IsProvingFor, counted_of, most_proved}
use Rattle.route_certificate.specs.declared.proving.Proving.{Proving}
use Rattle.route_engine.specs.Certificates.{AreProofs, IsCertificateFor, IsCertificateRefusal, most_for_leg}
use Rattle.route_engine.specs.Jobs.{IsPlanOn, plan_of}
use Rattle.route_engine.specs.Labels.{beginning}
use Rattle.route_engine.specs.Plans.{Plan, leg_count, nth_leg}
use Rattle.route_engine.specs.Progress.{links_in}
use Rattle.route_engine.specs.Searches.{EndsSearch, StepsSearch}
use Rattle.route_engine.specs.declared.certificate.CertificateJob.{CertificateJob}
use Rattle.route_engine.specs.declared.plan.JobPlan.{JobPlan}
use Rattle.route_ready.specs.Worlds.{WorldValue}
use Rattle.route_ready.specs.declared.error.RouteError.{RouteError}
use Rattle.tasks.specs.declared.steps.Stepped.{Stepped}

-- the plan of a job
abbrev pub certificate_plan : WorldValue → CertificateJob → Plan
certificate_plan world job = plan_of world job.plan

-- the most that is counted for one of its legs
abbrev pub leg_most : Plan → ℕ
leg_most plan = most_for_leg (links_in plan) plan.limit

-- this is the search on the leg behind those that are shown
pub record IsNextLeg (plan : Plan) (legs : List Proof) (proving : Proving) : Type 0 where
  pub there : length legs < leg_count plan
  pub on : IsProvingFor plan.setting.terrain Least (nth_leg plan (length legs)) plan.limit proving
  pub within : counted_of proving ≤ most_proved (links_in plan) plan.limit

-- how far a job is on the leg behind those that are shown: its search, or not begun
abbrev pub IsNext : (plan : Plan) (legs : List Proof) → Option Proving → Type 0
IsNext plan legs (Some proving) = IsNextLeg plan legs proving
IsNext plan legs None = length legs ≤ leg_count plan

-- it is a job over a world
pub record IsCertificateOn (world : WorldValue) (job : CertificateJob) : Type 0 where
  pub plan : IsPlanOn world job.plan
  pub first : AreProofs (certificate_plan world job) job.legs.items
  pub next : IsNext (certificate_plan world job) job.legs.items job.next

-- ---- How much is left

-- how many legs are left
abbrev pub legs_left : WorldValue → CertificateJob → ℕ
legs_left world job = leg_count (certificate_plan world job) - length job.legs.items

-- what was counted on the next leg
abbrev pub counted_on : Option Proving → ℕ
counted_on (Some proving) = beginning + counted_of proving
counted_on None = 0

-- how much may still be counted
abbrev pub work_of_certificate : WorldValue → CertificateJob → ℕ
work_of_certificate world job =
    legs_left world job * leg_most (certificate_plan world job) - counted_on job.next

-- ---- Its steps

-- what a step comes to
abbrev pub StepsCertificate : (world : WorldValue) (budget : ℕ) (before : CertificateJob) →
    Stepped CertificateJob (Result Certificate RouteError) → Type 0
StepsCertificate world budget before step =
    StepsSearch (IsCertificateOn world) (certificate_plan world) (work_of_certificate world) (legs_left world)
    IsCertificateFor IsCertificateRefusal budget before step

-- a job over the same plan, in which one leg more than so many is shown and the next one isn't begun
pub record IsBehind (world : WorldValue) (plan : JobPlan) (count : ℕ) (job : CertificateJob) : Type 0 where
  pub on : IsCertificateOn world job
  pub same : job.plan ≡ plan
  pub counted : length job.legs.items ≡ suc count
  pub none : job.next ≡ None

-- what the end of the search on a leg comes to
abbrev pub EndsLeg : (world : WorldValue) (plan : JobPlan) (count : ℕ) →
    Turn CertificateJob (Result Certificate RouteError) → Type 0
EndsLeg world plan count =
    Says (IsBehind world plan count) (EndsSearch IsCertificateFor IsCertificateRefusal (plan_of world plan))
