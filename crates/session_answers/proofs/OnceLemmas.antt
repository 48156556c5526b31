-- No key has two makings, whatever becomes of them.
use Rattle.std.proofs.Common.{◌≡◌, ◌≢◌, ℕ, List, [], Option, Some, None, get_or, inl, inr, refl, sym, ap, ◌∙◌, subst}
use Rattle.std.proofs.lemmas.Bool.{cases_eq}
use Rattle.route_ready.specs.Worlds.{WorldValue}
use Rattle.session_answers.specs.Makings.{HasTurn, HaveOneMaking, IsAdded, Puts, StandsAt}
use Rattle.session_answers.specs.declared.key.Key.{Key}
use Rattle.session_answers.specs.declared.makings.Making.{Making}

-- what stands at a place is one
pub one-there : (slot : Option Making) (a b : Making) → slot ≡ Some a → slot ≡ Some b → a ≡ b
one-there slot a b first second = cc

-- where there are no places no key has a making
pub once-none : (slots : List (Option Making)) → slots ≡ [] → HaveOneMaking slots
unfolding HaveOneMaking
once-none slots none key j k first second =
    let clash : None ≡ Some first.making = sym (ap (λ (l : List (Option Making)). get_or l j None) none) ∙ first.there in
    absurd (cc)

module _ (old new : List (Option Making)) (k : ℕ) where
  -- what stands at another place than something was put at stood there before
  stood : (slot : Option Making) → Puts old new k slot → (key : Key) (i : ℕ) → i ≢ k → StandsAt new key i → StandsAt old key i
  stood slot puts key i other stands = record {
    making = stands.making;
    there = sym (puts.others i other) ∙ stands.there;
    key_is = stands.key_is;
  }

  module _ (making : Making) (puts : Puts old new k (Some making)) where
    -- a making that was put at a place stands there under its own key
    put-under : (key : Key) (i : ℕ) → i ≡ k → StandsAt new key i → key ≡ making.key
    put-under key i at stands =
        let one : stands.making ≡ making =
        one-there (get_or new i None) stands.making making stands.there (ap (λ (n : ℕ). get_or new n None) at ∙ puts.is) in
        sym stands.key_is ∙ ap (λ (m : Making). m.key) one

    -- nothing else stands under that key where nothing else stood under it
    put-alone : ((j : ℕ) → j ≢ k → StandsAt old making.key j → ⊥) → (key : Key) (i j : ℕ) → i ≡ k → j ≢ k → StandsAt new key i →
        StandsAt new key j → ⊥
    put-alone alone key i j at other first second =
        alone j other
        (subst (λ (q : Key). StandsAt old q j) (put-under key i at first) (stood (Some making) puts key j other second))

    -- and then no key has two makings, where none had two before
    once-put : ((j : ℕ) → j ≢ k → StandsAt old making.key j → ⊥) → HaveOneMaking old → HaveOneMaking new
    unfolding HaveOneMaking
    once-put alone once key i j first second = elim (cases_eq i k) [
      | inl at ↦ elim (cases_eq j k) [
        | inl at-too ↦ at ∙ sym at-too
        | inr other ↦ absurd (put-alone alone key i j at other first second)
      ]
      | inr other ↦ elim (cases_eq j k) [
        | inl at ↦ absurd (put-alone alone key j i at other second first)
        | inr other-too ↦
            once key i j (stood (Some making) puts key i other first) (stood (Some making) puts key j other-too second)
      ]
    ]

  -- so it is where a making is added under a key that has none
  pub once-added : (making : Making) → IsAdded old new making k → ((j : ℕ) → StandsAt old making.key j → ⊥) → HaveOneMaking old →
      HaveOneMaking new
  once-added making added none = once-put making added.puts (λ j other. none j)

  -- where one has a turn
  pub once-turned : (world : WorldValue) (end : Option _) → HasTurn world old new k end → HaveOneMaking old → HaveOneMaking new
  unfolding HaveOneMaking
  once-turned world end turned once =
      once-put turned.after turned.puts
      (λ j other stands.
      other
      (once turned.before.key j k (subst (λ (q : Key). StandsAt old q j) turned.key_same stands)
      (record { making = turned.before; there = turned.there; key_is = refl })))
      once

  -- and where one is dropped
  dropped-other : Puts old new k None → (key : Key) (i : ℕ) → StandsAt new key i → i ≢ k
  dropped-other puts key i stands at =
      let clash : None ≡ Some stands.making = sym (ap (λ (n : ℕ). get_or new n None) at ∙ puts.is) ∙ stands.there in absurd (cc)

  pub once-dropped : Puts old new k None → HaveOneMaking old → HaveOneMaking new
  unfolding HaveOneMaking
  once-dropped puts once key i j first second =
      once key i j (stood None puts key i (dropped-other puts key i first) first)
      (stood None puts key j (dropped-other puts key j second) second)
