-- What crates above may cite.
pub use Rattle.session_answers.proofs.JobLemmas.{job_more, job_now, job_place, job_stays, job_unawaited, kept_more}
pub use Rattle.session_answers.proofs.VerdictLemmas.{if-so, path-so, verdict_in, verdict_unique}
