-- What the reading of a map comes to.
use Rattle.std.proofs.Common.{◌∙◌, ◌≤◌, ℕ, List, Some, Err, ap, subst, sym, refl, arith, [], ◌++◌, append-nil, length, take, length-append, length-take-le}
use Rattle.std.proofs.lemmas.List.{take_all}
use Rattle.std.proofs.lemmas.Result.{err_from_is_err_and}
use Rattle.edge_io.proofs.WholeLemmas.{HasRead-none, HasRead-more, ReadsBytes-end, ReadsBytes-more, ReadsBytes-fails, IsAllLeft-end, joined}
use Rattle.run_files.proofs.MapReadingLemmas.{reads-map, read-failed, read-whole, read-fault, read-long, fed-whole, text-counts, fault-counts}
use Rattle.run_files.proofs.NoteLemmas.{noted-none, read-more}
use Rattle.run_files.specs.MapReading.{OnFault}
use Rattle.run_files.specs.declared.map_error.MapFileError.{MapFileError}
use Rattle.overpass_graph.specs.Builder.{IsFaultOfBeginning, MayBecomeMap, StandsForText}
use Rattle.run_files.proofs.map_reading.read_map.Goals as goal

-- nothing was read at first
pub reading-init : goal.reading-init
reading-init g c = record {
  bytes = [];
  stands = c.new-builder.ensures.value;
  counted = c.new-builder.ensures.fed;
  held = omega arith;
  is_open = c.requires.ready;
  noted = noted-none _;
  read = HasRead-none _;
}

-- a read failed
pub returns-in_err-given-clause-exact : goal.returns-in_err-given-clause-exact
returns-in_err-given-clause-exact g c =
    let (e, is, fault) = err_from_is_err_and c.from_residual.result c.from_residual.ensures.1 in
    read-failed _ _ _ (is ∙ ap (λ (e : MapFileError). Err e) fault)

pub returns-in_err-given-clause-kept : goal.returns-in_err-given-clause-kept
returns-in_err-given-clause-kept g c =
    let (e, is, fault) = err_from_is_err_and c.from_residual.result c.from_residual.ensures.1 in
    reads-map _ _ _ _ c.reading.invariant.bytes _
    (ReadsBytes-fails _ _ _ _ _ (omega (arith, c.reading.invariant.held)) c.reading.invariant.read c.in_err-given.ensures.kept)
    (read-failed _ (Some c.reading.invariant.bytes) _ (is ∙ ap (λ (e : MapFileError). Err e) fault)) c.reading.invariant.noted

-- the text ends
pub returns-then-given-eq0-clause-exact : goal.returns-then-given-eq0-clause-exact
returns-then-given-eq0-clause-exact g c =
    let fits : length c.reading.invariant.bytes ≤ c.args.limit = omega (arith, c.reading.invariant.held) in
    read-whole _ _ _ _ fits
    (IsAllLeft-end _ _ _ _ _ _ _ fits c.reading.invariant.read c.in_ok-given.ensures.found c.if-given-eq0.true)
    (c.finish.ensures.exact _ c.reading.invariant.stands)

pub returns-then-given-eq0-clause-kept : goal.returns-then-given-eq0-clause-kept
returns-then-given-eq0-clause-kept g c =
    let fits : length c.reading.invariant.bytes ≤ c.args.limit = omega (arith, c.reading.invariant.held) in
    reads-map _ _ _ _ c.reading.invariant.bytes _
    (ReadsBytes-end _ _ _ _ _ _ _ fits c.reading.invariant.read c.in_ok-given.ensures.found c.if-given-eq0.true)
    (read-whole _ (Some c.reading.invariant.bytes) _ _ fits refl (c.finish.ensures.exact _ c.reading.invariant.stands))
    c.reading.invariant.noted

pub returns-then-given-eq0-clause-cause : goal.returns-then-given-eq0-clause-cause
returns-then-given-eq0-clause-cause g c =
    text-counts _ _ _ _ (c.in_ok-given.ensures.found.faults
    ∙ c.reading.invariant.read.faults) (c.finish.ensures.exact _ c.reading.invariant.stands)

-- a piece is refused
pub returns-in-Err-clause-exact : goal.returns-in-Err-clause-exact
returns-in-Err-clause-exact g c =
    read-fault (Unit {0}) _ _ _ _ _ _ _ c.reading.invariant.held
    (joined _ _ _ _ _ _ c.reading.invariant.read c.in_ok-given.ensures.found)
    (subst (λ (l : List ℕ). OnFault {T = Unit {0}} (Err c.in-Err.error) (IsFaultOfBeginning (c.reading.invariant.bytes ++ l)))
    c.within.ensures.exact (c.in-Err.ensures.exact _ c.reading.invariant.stands))

pub returns-in-Err-clause-kept : goal.returns-in-Err-clause-kept
returns-in-Err-clause-kept g c =
    reads-map _ _ _ _ (c.reading.invariant.bytes ++ take c.in_ok-given.given c.read.new.buf) _
    (ReadsBytes-more _ _ _ _ _ _ _ (omega (arith, c.reading.invariant.held)) c.reading.invariant.read c.in_ok-given.ensures.found)
    (read-fault (Unit {0}) _ _ (Some _) (Some []) _ _ _ c.reading.invariant.held (sym (append-nil _))
    (subst (λ (l : List ℕ). OnFault {T = Unit {0}} (Err c.in-Err.error) (IsFaultOfBeginning (c.reading.invariant.bytes ++ l)))
    c.within.ensures.exact (c.in-Err.ensures.exact _ c.reading.invariant.stands)))
    (read-more c.args.file.now c.reading.invariant.bytes _ _ _ _ _ _ (omega (arith, c.reading.invariant.held))
    (length-take-le _ _ c.in_ok-given.ensures.fits) c.note_part.ensures.noted c.reading.invariant.noted)

pub returns-in-Err-clause-cause : goal.returns-in-Err-clause-cause
returns-in-Err-clause-cause g c =
    fault-counts (Unit {0}) _ _ _ _ (c.in_ok-given.ensures.found.faults
    ∙ c.reading.invariant.read.faults) (c.in-Err.ensures.exact _ c.reading.invariant.stands)

-- there are too many bytes
pub returns-then-given-room-clause-exact : goal.returns-then-given-room-clause-exact
returns-then-given-room-clause-exact g c =
    read-long _ _ _ _ _ _ c.reading.invariant.held (omega (arith, c.if-given-room.true, length-take-le _ _ c.in_ok-given.ensures.fits))
    (joined _ _ _ _ _ _ c.reading.invariant.read c.in_ok-given.ensures.found)
    (subst (λ (l : List ℕ). MayBecomeMap (c.reading.invariant.bytes ++ l)) c.within.ensures.exact
    (c.in-Ok.ensures.found _ c.reading.invariant.stands))

pub returns-then-given-room-clause-kept : goal.returns-then-given-room-clause-kept
returns-then-given-room-clause-kept g c =
    reads-map _ _ _ _ (c.reading.invariant.bytes ++ take c.in_ok-given.given c.read.new.buf) _
    (ReadsBytes-more _ _ _ _ _ _ _ (omega (arith, c.reading.invariant.held)) c.reading.invariant.read c.in_ok-given.ensures.found)
    (read-long _ _ (Some _) (Some []) _ _ c.reading.invariant.held
    (omega (arith, c.if-given-room.true, length-take-le _ _ c.in_ok-given.ensures.fits)) (sym (append-nil _))
    (subst (λ (l : List ℕ). MayBecomeMap (c.reading.invariant.bytes ++ l)) c.within.ensures.exact
    (c.in-Ok.ensures.found _ c.reading.invariant.stands)))
    (read-more c.args.file.now c.reading.invariant.bytes _ _ _ _ _ _ (omega (arith, c.reading.invariant.held))
    (length-take-le _ _ c.in_ok-given.ensures.fits) c.note_part.ensures.noted c.reading.invariant.noted)

-- a piece was fed
pub reading-preserved : goal.reading-preserved
reading-preserved g c =
    let long = length-take-le c.in_ok-given.given c.read.new.buf c.in_ok-given.ensures.fits in
    let fits : length (take c.in_ok-given.given c.read.new.buf) ≤ c.reading.room = omega (arith, long, c.if-given-room.false) in
    let is = c.within.ensures.exact ∙ take_all c.reading.room _ fits in
    record {
      bytes = c.reading.invariant.bytes ++ take c.in_ok-given.given c.read.new.buf;
      stands = fed-whole (StandsForText c.feed.new.builder) _ _ _ _ c.within.ensures.exact fits
          (c.in-Ok.ensures.value _ c.reading.invariant.stands);
      counted = c.in-Ok.ensures.fed ∙ omega (
        arith,
        c.reading.invariant.counted,
        ap length is,
        length-append c.reading.invariant.bytes (take c.in_ok-given.given c.read.new.buf),
      );
      held = omega (
        arith,
        c.reading.invariant.held,
        long,
        c.if-given-room.false,
        length-append c.reading.invariant.bytes (take c.in_ok-given.given c.read.new.buf),
      );
      is_open = c.in_ok-given.ensures.found.is_open ∙ c.reading.invariant.is_open;
      noted = read-more c.args.file.now c.reading.invariant.bytes _ _ _ _ _ _ (omega (arith, c.reading.invariant.held))
          (length-take-le _ _ c.in_ok-given.ensures.fits) c.note_part.ensures.noted c.reading.invariant.noted;
      read = HasRead-more _ _ _ _ _ _ _ refl (omega (arith, c.if-given-eq0.false)) c.in_ok-given.ensures.fits c.reading.invariant.read
          c.in_ok-given.ensures.found;
    }
