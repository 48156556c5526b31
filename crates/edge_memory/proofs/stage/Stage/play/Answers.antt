use Rattle.edge_memory.proofs.SetLemmas.{Set-played, Plays-played, Played}
use Rattle.edge_memory.proofs.stage.Stage.play.Goals as goal

pub invariant_of-self : goal.invariant_of-self
invariant_of-self c =
    let played : Played c.self.inside c.note_event.new.self c.follow.new.live c.behind_waits-place.result.0 c.behind_waits-place.result.1
    c.args.most c.shot_at-shot.result = record {
      behind = rw (← c.script.ensures.value, ← c.as_slice.ensures.value) c.behind_waits-place.ensures.exact;
      shot_is = rw (← c.script-2.ensures.value) c.shot_at-shot.ensures.exact;
      noted = rw c.told_as-event.ensures.exact at c.note_event.ensures.value;
      follows = rw c.told_as-event.ensures.exact at c.follow.ensures.exact;
      few = rw c.told_as-event.ensures.exact at c.follow.ensures.few;
      capacity = c.follow.ensures.capacity;
    } in
    Set-played c.self.inside c.args.self.now _ _ _ _ c.args.most c.shot_at-shot.result c.self.invariant c.self.view_is played
    c.requires.room c.follow.new.live.ok.0 c.self.inside.live.ok.0

pub returns : goal.returns
returns c =
    let played : Played c.self.inside c.note_event.new.self c.follow.new.live c.behind_waits-place.result.0 c.behind_waits-place.result.1
    c.args.most c.shot_at-shot.result = record {
      behind = rw (← c.script.ensures.value, ← c.as_slice.ensures.value) c.behind_waits-place.ensures.exact;
      shot_is = rw (← c.script-2.ensures.value) c.shot_at-shot.ensures.exact;
      noted = rw c.told_as-event.ensures.exact at c.note_event.ensures.value;
      follows = rw c.told_as-event.ensures.exact at c.follow.ensures.exact;
      few = rw c.told_as-event.ensures.exact at c.follow.ensures.few;
      capacity = c.follow.ensures.capacity;
    } in
    record {
      exact = rw c.told_as-event.ensures.exact (Plays-played c.self.inside c.args.self.now _ _ _ _ c.args.most c.shot_at-shot.result c.self.invariant c.self.view_is played
          c.args.buf.now c.fill.new.buf c.bytes_in.result.now c.requires.fits (rw (← c.script-3.ensures.value, ← c.told_as-event.ensures.exact) c.bytes_in.ensures.exact)
          c.fill.ensures.filled);
    }
