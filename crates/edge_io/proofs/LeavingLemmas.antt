-- What a read of a connection comes to that was closed, by whether it is left any longer.
use Rattle.std.proofs.Common.{◌≡◌, ℕ, Bool, true, false, List, Option, Some, None, sym, ◌∙◌, ap, subst, cond}
use Rattle.edge_io.specs.Leaving.{Drains, DrainsOne}
use Rattle.edge_io.specs.declared.leaving.Leaver.{Leaver}

-- one was read, and is left
pub Drains-left : {S : Type 0} (remaining : S → Option (List ℕ)) (a b : Option (Leaver S)) (stays : Bool) (old left : Leaver S) →
    a ≡ Some old → b ≡ Some left → stays ≡ true → DrainsOne remaining old left stays → Drains remaining a b
Drains-left {S} remaining a b stays old left was is held drained =
    subst (λ (x : Option (Leaver S)). Drains remaining x b) (sym was)
    (stays, left, drained, is ∙ ap (λ (s : Bool). cond s (Some left) None) (sym held))

-- one was read, and is left no longer
pub Drains-gone : {S : Type 0} (remaining : S → Option (List ℕ)) (a b : Option (Leaver S)) (stays : Bool) (old left : Leaver S) →
    a ≡ Some old → b ≡ None → stays ≡ false → DrainsOne remaining old left stays → Drains remaining a b
Drains-gone {S} remaining a b stays old left was is goes drained =
    subst (λ (x : Option (Leaver S)). Drains remaining x b) (sym was)
    (stays, left, drained, is ∙ ap (λ (s : Bool). cond s (Some left) None) (sym goes))
