-- Nothing is stored where memory runs out.
use Rattle.std.proofs.Common.{refl}
use Rattle.std.proofs.lemmas.Result.{IfOk-from_err, err_from_is_err_and}
use Rattle.session_answers.proofs.uploading.stored.Goals as goal

pub returns-in_err-name : goal.returns-in_err-name
returns-in_err-name c =
    let p = err_from_is_err_and c.from_residual.result c.from_residual.ensures.1 in
    record {
      exact = IfOk-from_err _ _ c.from_residual.ensures.0;
      stored = IfOk-from_err _ _ c.from_residual.ensures.0;
      kept = rw p.1 refl;
      given = refl;
    }

pub returns-in_err-body : goal.returns-in_err-body
returns-in_err-body c =
    let p = err_from_is_err_and c.from_residual-in_err-body.result c.from_residual-in_err-body.ensures.1 in
    record {
      exact = IfOk-from_err _ _ c.from_residual-in_err-body.ensures.0;
      stored = IfOk-from_err _ _ c.from_residual-in_err-body.ensures.0;
      kept = rw p.1 refl;
      given = refl;
    }

pub returns-in_err-answer : goal.returns-in_err-answer
returns-in_err-answer c =
    let p = err_from_is_err_and c.from_residual-in_err-answer.result c.from_residual-in_err-answer.ensures.1 in
    record {
      exact = IfOk-from_err _ _ c.from_residual-in_err-answer.ensures.0;
      stored = IfOk-from_err _ _ c.from_residual-in_err-answer.ensures.0;
      kept = rw p.1 refl;
      given = refl;
    }
