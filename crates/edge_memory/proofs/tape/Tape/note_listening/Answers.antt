use Rattle.std.proofs.Common.{◌≡◌, ◌-◌, ℕ, List, length, arith, refl, ap, subst, length-append, vec_len, vec_capacity}
use Rattle.edge_io.specs.Acts.{Listens}
use Rattle.edge_memory.specs.Tape.{Tape, Notes}
use Rattle.edge_memory.specs.TapeView.{tape_of}
use Rattle.edge_memory.proofs.TapeLemmas.{within-more, within-extended, acts-kept}
use Rattle.edge_memory.proofs.tape.Tape.note_listening.Goals as goal

pub invariant_of-self : goal.invariant_of-self
invariant_of-self c = record {
  within = rw (c.push_reserved.ensures.items, c.append_reserved.ensures.items)
      (within-more _ _ _ (within-extended _ _ _ c.self.invariant.within)
      (omega (arith, c.len-from.ensures, c.self.inside.kept.ok.0, length-append c.self.inside.kept.items c.args.address.now)));
}

pub returns : goal.returns
returns c =
    let old_room : vec_capacity c.self.inside.notes - vec_len c.self.inside.notes ≡ c.args.self.now.room =
    ap (λ (t : Tape). t.room) c.self.view_is in
    let old_place : vec_capacity c.self.inside.kept - vec_len c.self.inside.kept ≡ c.args.self.now.place =
    ap (λ (t : Tape). t.place) c.self.view_is in
    record {
      value = subst (λ (old : Tape). Notes old
          (tape_of (record { script = c.self.inside.script; notes = c.push_reserved.new.self; kept = c.append_reserved.new.bytes }))
          (length c.args.address.now) (Listens c.args.address.now c.args.hangup)) c.self.view_is
          (record {
            script = refl;
            acts = acts-kept (λ (xs : List ℕ). Listens xs c.args.hangup) _ _ _ _ _ _ _ _ _ refl c.append_reserved.ensures.items c.push_reserved.ensures.items
                (omega (arith, c.len-from.ensures, c.self.inside.kept.ok.0)) refl c.self.invariant.within;
            room = omega (arith, c.push_reserved.ensures.len, c.push_reserved.ensures.capacity, c.requires.room, old_room);
            place = omega (arith, c.append_reserved.ensures.len, c.append_reserved.ensures.capacity, c.requires.place, old_place);
          });
    }
