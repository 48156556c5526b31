-- What bytes come to as more of them come.
use Rattle.std.proofs.Common.{◌≡◌, ◌≢◌, ℕ, List, [], ◌++◌, length, take, None, refl, sym, ap, ◌∙◌, subst, arith}
use Rattle.route_http.proofs.CallerLemmas.{head_stays, more_behind, more_to}
use Rattle.route_http.specs.Ends.{end_of}
use Rattle.route_http.specs.Heads.{IsHeadOf}
use Rattle.route_http.specs.declared.heads.Head.{Head}
use Rattle.route_http.specs.declared.heads.Head.TheVariants as head

-- of no bytes more are wanted
pub more-first : (bytes : List ℕ) → bytes ≡ [] → IsHeadOf bytes head.More
more-first bytes none = subst (λ (l : List ℕ). IsHeadOf l head.More) (sym none) (more_to [] refl (omega arith))

-- where more were wanted, no head ends within the bytes that were there
pub none-before : (old new bytes : List ℕ) (answer : Head) (long : ℕ) → bytes ≡ old ++ new → long ≡ length old → answer ≡ head.More →
    IsHeadOf old answer → end_of (take long bytes) ≡ None
none-before old new bytes answer long bytes_are long_is more heads =
    ap (λ (k : ℕ). end_of (take k bytes)) long_is
    ∙ ap (λ (l : List ℕ). end_of (take (length old) l)) bytes_are
    ∙ more_behind old new (subst (IsHeadOf old) more heads)

-- where none were wanted, more change nothing
pub stays-after : (old new bytes : List ℕ) (answer : Head) → bytes ≡ old ++ new → answer ≢ head.More → IsHeadOf old answer →
    IsHeadOf bytes answer
stays-after old new bytes answer bytes_are other heads =
    subst (λ (l : List ℕ). IsHeadOf l answer) (sym bytes_are) (head_stays old new answer heads other)
