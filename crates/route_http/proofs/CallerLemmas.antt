-- What crates above may cite of requests and of heads.
pub use Rattle.route_http.proofs.LimitLemmas.{IsLimited, read-limited, request-limited}
pub use Rattle.route_http.proofs.EndLemmas.{end_append, end_fits, end_none}
pub use Rattle.route_http.proofs.AnswerLemmas.{head_unique, head_stays, head_within, more_from, more_to, more_behind, none_longer}
