use Rattle.std.proofs.Common.{◌≡◌, ◌∙◌, ◌++◌, ◌∷◌, [], arith, ap, sym, subst, length, take, refl, List, ℕ, ◌+◌, ◌-◌, Vec, Global}
use Rattle.std.proofs.lemmas.List.{take_at}
use Rattle.std.proofs.lemmas.Result.{err_from_is_err_and}
use Rattle.std.specs.Vec.{vec_len}
use Rattle.profile_text.specs.Numbered.{AreNumbered}
use Rattle.profile_text.proofs.NameLemmas.{AreNumbered-push}
use Rattle.profile_text.proofs.names.Names.push.Goals as goal
use Rattle.profile_text.proofs.names.Names.push.Goals.{in-Ok, in-Err}

-- a name that was put at the end and taken away again leaves the names
popped : (names pushed left : List (List ℕ)) (name : List ℕ) (old new : ℕ) → pushed ≡ names ++ name ∷ [] → left ≡ take (new - 1) pushed
    → new ≡ old + 1 → old ≡ length names → left ≡ names
popped names pushed left name old new pushed_is left_is new_is old_is =
    left_is ∙ ap (take (new - 1)) pushed_is ∙ take_at names (name ∷ []) (new - 1) (omega arith)

-- an index stays one of the names where both stay
kept : (names left : List (List ℕ)) (entries more : List (Vec ℕ Global × ℕ)) → left ≡ names → more ≡ entries
    → AreNumbered names entries → AreNumbered left more
kept names left entries more left_is more_is numbered =
    subst (λ ns. AreNumbered ns more) (sym left_is) (subst (λ es. AreNumbered names es) (sym more_is) numbered)

pub invariant_of-self-in-Ok : goal.invariant_of-self-in-Ok
invariant_of-self-in-Ok c =
    let names = c.self.inside.names.items in
    let key = c.in_ok-key.key in
    let pushed : c.push.new.self.items ≡ names ++ key.items ∷ [] =
    c.in_ok-push.ensures.items ∙ ap (λ name. names ++ name ∷ []) (c.in_ok-copy.ensures.value ∙ sym c.in_ok-key.ensures.items) in
    AreNumbered-push names c.push.new.self.items c.self.inside.places.entries c.insert.new.self.entries key c.len-place.result
    c.self.invariant (c.len-place.ensures.value ∙ ap length (sym c.self.view_is))
    (omega (arith, c.len-place.ensures, c.if-place.false)) pushed c.in-Ok.ensures.entries

pub invariant_of-self : goal.invariant_of-self
invariant_of-self c =
    kept c.self.inside.names.items c.push.new.self.items c.self.inside.places.entries c.self.inside.places.entries
    c.in_err-push.ensures.items refl c.self.invariant

pub invariant_of-self-in-Err : goal.invariant_of-self-in-Err
invariant_of-self-in-Err c =
    let names = c.self.inside.names.items in
    kept names c.pop.new.self.items c.self.inside.places.entries c.insert.new.self.entries
    (popped names c.push.new.self.items c.pop.new.self.items c.in_ok-copy.copy (vec_len c.self.inside.names) (vec_len c.push.new.self)
    c.in_ok-push.ensures.items c.pop.ensures.rest c.in_ok-push.ensures.len c.self.inside.names.ok.0)
    c.in-Err.ensures.err c.self.invariant

pub returns-in_err-key : goal.returns-in_err-key
returns-in_err-key c =
    let p = err_from_is_err_and c.from_residual-in_err-key.result c.from_residual-in_err-key.ensures.1 in
    rw (p.1) (record { value = tt; same = refl })

pub returns-in_err-copy : goal.returns-in_err-copy
returns-in_err-copy c =
    let p = err_from_is_err_and c.from_residual.result c.from_residual.ensures.1 in
    rw (p.1) (record { value = tt; same = refl })

pub returns-in_err-push : goal.returns-in_err-push
returns-in_err-push c =
    let p = err_from_is_err_and c.from_residual-in_err-push.result c.from_residual-in_err-push.ensures.1 in
    rw (p.1) (record { value = tt; same = c.in_err-push.ensures.items ∙ c.self.view_is })

pub returns : goal.returns
returns c =
    let names = c.self.inside.names.items in
    let name = c.args.name.now in
    elim c.match-insert.branch [
      | in-Ok w ↦ rw (w.result-is) (record {
        value = w.self-is ∙ c.in_ok-push.ensures.items ∙ ap (λ (n : List ℕ). names ++ n ∷ []) c.in_ok-copy.ensures.value
            ∙ ap (λ (ns : List (List ℕ)). ns ++ name ∷ []) c.self.view_is;
        same = tt;
      })
      | in-Err w ↦ rw (w.result-is) (record {
        value = tt;
        same =
            w.self-is
            ∙ popped names c.push.new.self.items w.pop.new.self.items c.in_ok-copy.copy (vec_len c.self.inside.names)
            (vec_len c.push.new.self) c.in_ok-push.ensures.items w.pop.ensures.rest c.in_ok-push.ensures.len
            c.self.inside.names.ok.0
            ∙ c.self.view_is;
      })
    ]
