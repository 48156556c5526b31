use Rattle.std.proofs.Common.{◌≡◌, ℕ, ◌<◌, ◌^◌, ◌⊎◌, inl, inr, Ok, refl, ap, length, arith}
use Rattle.space_search.specs.Books.{books}
use Rattle.item_list.specs.declared.turn.Turn.TheVariants.{Done}
use Rattle.space_search.specs.View.{settled_of}
use Rattle.space_search.specs.declared.outcome.Outcome.{Outcome}
use Rattle.space_search.specs.declared.phase.Phase.TheVariants.{New, Running, Ended, Failed}
use Rattle.space_search.proofs.TakenLemmas.{within-same}
use Rattle.space_search.proofs.TurnsLemmas.{phase-is, not-ended, not-failed, one-end, below-quota, none-settled, of-failed, ends-turned, of-turned, goes-on, goes-same, goes-through, counts-through, Between, between-same, unspent, unspent-turn, ends-again}
use Rattle.space_search.proofs.search.Search.turn.Goals as goal
use Rattle.space_search.proofs.search.Search.turn.Goals.{in-New+in_ok-begin-in-New, in-Running}

pub returns-in-Ended-clause-kept : goal.returns-in-Ended-clause-kept
returns-in-Ended-clause-kept g c = goes-same (g.S.Space.rules c.args.space.now) c.args.self.now c.requires.of

pub returns-in-Ended-clause-enough : goal.returns-in-Ended-clause-enough
returns-in-Ended-clause-enough g c most few enough =
    unspent (g.S.Space.rules c.args.space.now) (g.met.S.Space.keeps_laws c.args.space.now) most _ c.in-Ended.end few enough
    (ends-again (g.S.Space.rules c.args.space.now) c.args.self.now c.in-Ended.end c.requires.of c.in-Ended.is).0

pub returns-in-Failed-clause-kept : goal.returns-in-Failed-clause-kept
returns-in-Failed-clause-kept g c = goes-same (g.S.Space.rules c.args.space.now) c.args.self.now c.requires.of

pub returns-in_err-begin-in-New-clause-kept : goal.returns-in_err-begin-in-New-clause-kept
returns-in_err-begin-in-New-clause-kept g c =
    goes-on (g.S.Space.rules c.args.space.now) _
    (record { limit = c.args.self.now.limit; kept = books c.begin.new.lists; found = c.args.self.now.found; phase = Failed })
    c.requires.of.stands.reads c.in_err-begin-in-New.ensures.leaves refl
    (omega (arith, c.requires.of.within, ap length c.in_err-begin-in-New.ensures.settled))

pub returns-in_err-answer-clause-kept : goal.returns-in_err-answer-clause-kept
returns-in_err-answer-clause-kept g c =
    let first : Between (g.S.Space.rules c.args.space.now) c.args.self.now c.match-phase.self =
    elim c.match-phase.branch [
      | in-New+in_ok-begin-in-New w ↦
          rw w.self-is
          (record { leaves = w.in_ok-begin-in-New.ensures.leaves; limit = refl; settled = w.in_ok-begin-in-New.ensures.settled })
      | in-Running w ↦ rw w.self-is (between-same _ c.args.self.now Failed c.requires.of)
    ] in
    goes-through (g.S.Space.rules c.args.space.now) c.args.self.now c.match-phase.self
    (record {
      limit = c.match-phase.self.limit;
      kept = books c.take_many.new.lists;
      found = c.match-phase.self.found;
      phase = c.match-phase.self.phase;
    })
    c.requires.of first c.in_err-answer.ensures.leaves refl c.in_err-answer.ensures.fits

pub returns-clause-kept : goal.returns-clause-kept
returns-clause-kept g c =
    let first : Between (g.S.Space.rules c.args.space.now) c.args.self.now c.match-phase.self =
    elim c.match-phase.branch [
      | in-New+in_ok-begin-in-New w ↦
          rw w.self-is
          (record { leaves = w.in_ok-begin-in-New.ensures.leaves; limit = refl; settled = w.in_ok-begin-in-New.ensures.settled })
      | in-Running w ↦ rw w.self-is (between-same _ c.args.self.now Failed c.requires.of)
    ] in
    goes-through (g.S.Space.rules c.args.space.now) c.args.self.now c.match-phase.self
    (record {
      limit = c.match-phase.self.limit;
      kept = books c.take_many.new.lists;
      found = c.in_ok-answer.answer.1;
      phase = c.after_turn-self.result;
    })
    c.requires.of first c.in_ok-answer.ensures.leaves refl c.in_ok-answer.ensures.fits

pub returns-clause-counts : goal.returns-clause-counts
returns-clause-counts g c =
    let first : Between (g.S.Space.rules c.args.space.now) c.args.self.now c.match-phase.self =
    elim c.match-phase.branch [
      | in-New+in_ok-begin-in-New w ↦
          rw w.self-is
          (record { leaves = w.in_ok-begin-in-New.ensures.leaves; limit = refl; settled = w.in_ok-begin-in-New.ensures.settled })
      | in-Running w ↦ rw w.self-is (between-same _ c.args.self.now Failed c.requires.of)
    ] in
    counts-through (g.S.Space.rules c.args.space.now) c.args.self.now c.match-phase.self _ c.args.quota
    c.in_ok-answer.answer.0 c.requires.of first c.in_ok-answer.ensures.turns

pub returns-clause-enough : goal.returns-clause-enough
returns-clause-enough g c most few enough =
    let limit : c.match-phase.self.limit ≡ c.args.self.now.limit =
    elim c.match-phase.branch [
      | in-New+in_ok-begin-in-New w ↦ rw w.self-is refl
      | in-Running w ↦ rw w.self-is refl
    ] in
    unspent-turn (g.S.Space.rules c.args.space.now) (g.met.S.Space.keeps_laws c.args.space.now) most _ c.in_ok-answer.answer.0 few
    (omega (arith, limit, enough)) c.in_ok-answer.ensures.turns.ends

pub returns-in-Ended-clause-of : goal.returns-in-Ended-clause-of
returns-in-Ended-clause-of g c = c.requires.of

pub returns-in-Ended-clause-ends : goal.returns-in-Ended-clause-ends
returns-in-Ended-clause-ends g c =
    (phase-is (g.S.Space.rules c.args.space.now) c.args.self.now (Ended c.in-Ended.end) c.requires.of c.in-Ended.is).0

pub returns-in-Ended-clause-counts : goal.returns-in-Ended-clause-counts
returns-in-Ended-clause-counts g c = below-quota (length (settled_of (books c.args.self.now.lists))) c.args.quota c.requires.some

pub returns-in-Ended-clause-last : goal.returns-in-Ended-clause-last
returns-in-Ended-clause-last g c = c.in-Ended.is

pub returns-in-Ended-clause-again : goal.returns-in-Ended-clause-again
returns-in-Ended-clause-again g c end is =
    (ap (λ (e : Outcome ℕ). Ok (Done e)) (one-end c.args.self.now.phase c.in-Ended.end end c.in-Ended.is is), refl)

pub returns-in-Failed-clause-of : goal.returns-in-Failed-clause-of
returns-in-Failed-clause-of g c = c.requires.of

pub begin-requires : goal.begin-requires
begin-requires g c = record { bounds = c.requires.bounds; fresh = phase-is (g.S.Space.rules c.args.space.now) c.args.self.now New c.requires.of c.in-New.is }

pub returns-in_err-begin-in-New-clause-of : goal.returns-in_err-begin-in-New-clause-of
returns-in_err-begin-in-New-clause-of g c =
    of-failed (g.S.Space.rules c.args.space.now) (books c.args.self.now.lists)
    (record c.args.self.now { lists = c.begin.new.lists; phase = Failed })
    c.requires.of.small (within-same _ _ c.args.self.now.limit (ap length c.in_err-begin-in-New.ensures.settled) c.requires.of.within)
    c.in_err-begin-in-New.ensures.leaves refl

pub returns-in_err-begin-in-New-clause-again : goal.returns-in_err-begin-in-New-clause-again
returns-in_err-begin-in-New-clause-again g c end is = not-ended c.args.self.now.phase (inl c.in-New.is) end is

pub returns-in_err-begin-in-New-clause-same : goal.returns-in_err-begin-in-New-clause-same
returns-in_err-begin-in-New-clause-same g c is = not-failed c.args.self.now.phase (inl c.in-New.is) is

pub take_many-requires : goal.take_many-requires
take_many-requires g c =
    elim c.match-phase.branch [
      | in-New+in_ok-begin-in-New w ↦
          let begins = w.in_ok-begin-in-New.ensures.begins in
          rw w.self-is
          (record {
            bounds = rw w.bounds-is w.in_ok-begin-in-New.ensures.bounds;
            kept = begins.kept;
            closed = begins.closed;
            small = c.requires.of.small;
            within = none-settled _ c.args.self.now.limit begins.none;
          })
      | in-Running w ↦
          let phase = phase-is (g.S.Space.rules c.args.space.now) c.args.self.now Running c.requires.of w.in-Running.is in
          rw w.self-is
          (record { bounds = rw w.bounds-is c.requires.bounds; kept = phase.0; closed = phase.1; small = c.requires.of.small; within = c.requires.of.within })
    ]

pub returns-in_err-answer-clause-of : goal.returns-in_err-answer-clause-of
returns-in_err-answer-clause-of g c =
    let small : (c.match-phase.self.limit < 2 ^ 32) × (c.match-phase.self.phase ≡ Failed) =
    elim c.match-phase.branch [
      | in-New+in_ok-begin-in-New w ↦ rw w.self-is (c.requires.of.small, refl)
      | in-Running w ↦ rw w.self-is (c.requires.of.small, refl)
    ] in
    of-failed (g.S.Space.rules c.args.space.now) (books c.match-phase.self.lists)
    (record c.match-phase.self { lists = c.take_many.new.lists; steps = c.take_many.new.steps })
    small.0 c.in_err-answer.ensures.fits c.in_err-answer.ensures.leaves small.1

pub returns-in_err-answer-clause-again : goal.returns-in_err-answer-clause-again
returns-in_err-answer-clause-again g c end is =
    let going : (c.args.self.now.phase ≡ New) ⊎ (c.args.self.now.phase ≡ Running) =
    elim c.match-phase.branch [
      | in-New+in_ok-begin-in-New w ↦ inl w.in-New.is
      | in-Running w ↦ inr w.in-Running.is
    ] in
    not-ended c.args.self.now.phase going end is

pub returns-in_err-answer-clause-same : goal.returns-in_err-answer-clause-same
returns-in_err-answer-clause-same g c is =
    let going : (c.args.self.now.phase ≡ New) ⊎ (c.args.self.now.phase ≡ Running) =
    elim c.match-phase.branch [
      | in-New+in_ok-begin-in-New w ↦ inl w.in-New.is
      | in-Running w ↦ inr w.in-Running.is
    ] in
    not-failed c.args.self.now.phase going is

pub returns-clause-of : goal.returns-clause-of
returns-clause-of g c =
    let small : c.match-phase.self.limit < 2 ^ 32 =
    elim c.match-phase.branch [
      | in-New+in_ok-begin-in-New w ↦ rw w.self-is c.requires.of.small
      | in-Running w ↦ rw w.self-is c.requires.of.small
    ] in
    of-turned (g.S.Space.rules c.args.space.now) c.args.quota (books c.match-phase.self.lists) c.take_many.new.lists
    c.match-phase.self.limit
    c.in_ok-answer.answer.1 c.take_many.new.steps small c.in_ok-answer.ensures.fits c.in_ok-answer.answer.0
    c.after_turn-self.result c.after_turn-self.ensures.value c.in_ok-answer.ensures.turns

pub returns-clause-ends : goal.returns-clause-ends
returns-clause-ends g c =
    ends-turned (g.S.Space.rules c.args.space.now) c.args.quota (books c.match-phase.self.lists) c.take_many.new.lists
    c.match-phase.self.limit
    c.in_ok-answer.answer.1 c.in_ok-answer.answer.0 c.after_turn-self.result c.after_turn-self.ensures.value
    c.in_ok-answer.ensures.turns

pub returns-clause-last : goal.returns-clause-last
returns-clause-last g c = c.after_turn-self.ensures.value

pub returns-clause-again : goal.returns-clause-again
returns-clause-again g c end is =
    let going : (c.args.self.now.phase ≡ New) ⊎ (c.args.self.now.phase ≡ Running) =
    elim c.match-phase.branch [
      | in-New+in_ok-begin-in-New w ↦ inl w.in-New.is
      | in-Running w ↦ inr w.in-Running.is
    ] in
    not-ended c.args.self.now.phase going end is

pub returns-clause-fails_again : goal.returns-clause-fails_again
returns-clause-fails_again g c is =
    let going : (c.args.self.now.phase ≡ New) ⊎ (c.args.self.now.phase ≡ Running) =
    elim c.match-phase.branch [
      | in-New+in_ok-begin-in-New w ↦ inl w.in-New.is
      | in-Running w ↦ inr w.in-Running.is
    ] in
    not-failed c.args.self.now.phase going is

pub returns-clause-same : goal.returns-clause-same
returns-clause-same g c is =
    let going : (c.args.self.now.phase ≡ New) ⊎ (c.args.self.now.phase ≡ Running) =
    elim c.match-phase.branch [
      | in-New+in_ok-begin-in-New w ↦ inl w.in-New.is
      | in-Running w ↦ inr w.in-Running.is
    ] in
    not-failed c.args.self.now.phase going is
