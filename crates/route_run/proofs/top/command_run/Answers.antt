use Rattle.std.proofs.Common.{◌≡◌, List, ℕ, Result, refl, subst, sym}
use Rattle.command_words.specs.declared.command.Command.{Command}
use Rattle.route_run.specs.Ends.{Ends}
use Rattle.route_run.specs.Outcome.{IsCommandAnswer, IsDone, Reach, inputs_in}
use Rattle.route_run.specs.Outcome.{IsDone as done}
use Rattle.run_answers.specs.Outputs.{output_in}
use Rattle.run_files.specs.Chain.{bytes_in}
use Rattle.run_files.specs.declared.status.Status.{Status}
use Rattle.route_run.proofs.top.command_run.Goals as goal

-- a command that is this one is done where its answer ends over the output
written : (command this : Command) (old new : Reach) (answer : Result (List ℕ) Status) (status : Status) → command ≡ this →
    IsCommandAnswer this (inputs_in old) (inputs_in new) answer → Ends answer status old.out new.out → new.hub ≡ old.hub → IsDone command old new status
written command this old new answer status is given ends hub =
    done.writes answer (subst (λ (c : Command). IsCommandAnswer c (inputs_in old) (inputs_in new) answer) (sym is) given) ends hub

pub returns-in-Grid : goal.returns-in-Grid
returns-in-Grid g c = record {
  exact =
      written _ _ _ _ (bytes_in c.grid_answer.result) _ c.in-Grid.is (c.grid_answer.ensures.exact, refl) c.send.ensures.ends refl;
}

pub returns-in-Make : goal.returns-in-Make
returns-in-Make g c = record {
  exact = written _ _ _ _ (output_in c.make_answer.result) _ c.in-Make.is (record { gives = c.make_answer.ensures.exact; same = refl })
      c.send_output.ensures.ends refl;
}

pub returns-in-Code : goal.returns-in-Code
returns-in-Code g c = record {
  exact =
      written _ _ _ _ (bytes_in c.code_answer.result) _ c.in-Code.is (c.code_answer.ensures.exact, refl) c.send-in-Code.ensures.ends refl;
}

pub returns-in-Route : goal.returns-in-Route
returns-in-Route g c = record {
  exact =
      written _ _ _ _ (bytes_in c.query_answer.result) _ c.in-Route.is c.query_answer.ensures.exact c.send-in-Route.ensures.ends refl;
}

pub returns-in-Certify : goal.returns-in-Certify
returns-in-Certify g c = record {
  exact =
      written _ _ _ _ (bytes_in c.query_answer-in-Certify.result) _ c.in-Certify.is c.query_answer-in-Certify.ensures.exact c.send-in-Certify.ensures.ends
      refl;
}

pub returns-in-Check : goal.returns-in-Check
returns-in-Check g c = record {
  exact =
      written _ _ _ _ (bytes_in c.check_answer.result) _ c.in-Check.is c.check_answer.ensures.exact c.send-in-Check.ensures.ends refl;
}

pub returns-in-Table : goal.returns-in-Table
returns-in-Table g c = record {
  exact =
      written _ _ _ _ (bytes_in c.query_answer-in-Table.result) _ c.in-Table.is c.query_answer-in-Table.ensures.exact c.send-in-Table.ensures.ends refl;
}

pub returns-in-Within : goal.returns-in-Within
returns-in-Within g c = record {
  exact =
      written _ _ _ _ (bytes_in c.query_answer-in-Within.result) _ c.in-Within.is c.query_answer-in-Within.ensures.exact c.send-in-Within.ensures.ends
      refl;
}

pub returns-in-Hills : goal.returns-in-Hills
returns-in-Hills g c = record {
  exact = written _ _ _ _ (bytes_in c.hills_answer.result) _ c.in-Hills.is (c.hills_answer.ensures.exact, refl) c.send-in-Hills.ensures.ends
      refl;
}

pub returns-in-Serve : goal.returns-in-Serve
returns-in-Serve g c = record { exact = done.serves c.in-Serve.command c.in-Serve.is c.serve_answer.ensures.exact refl }
