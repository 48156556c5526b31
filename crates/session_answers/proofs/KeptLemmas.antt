-- What is kept stays made for its world, whatever becomes of the cache.
use Rattle.std.proofs.Common.{◌≡◌, ◌⊎◌, inl, inr, Bool, true, List, [], Contains, Option, Some, Result, Ok, Err, OnOk, OnErr, Bor, sym, ap, ◌∙◌, subst}
use Rattle.session_answers.specs.Kept.{IsMade}
use Rattle.session_answers.specs.declared.kept_profile.KeptProfile.{KeptProfile}
use Rattle.session_answers.specs.declared.key.Key.{Key}
use Rattle.lru.proofs.CallerLemmas.{Contains-lookup, Contains-promoted, Contains-put_entries}
use Rattle.lru.proofs.Splits.{Contains-nil}
use Rattle.lru.specs.LruCache.{LruCache, lru_cache, promoted, put_entries}
use Rattle.profile_text.specs.Tree.{Sections}
use Rattle.route_ready.specs.Worlds.{WorldValue}
use Rattle.std.specs.Map.{lookup}
use Rattle.std.specs.Option.{option_copied}

module _ (world : WorldValue) (stored : List Sections) where
  -- all entries are made so
  abbrev pub AllMade : List (Key × KeptProfile) → Type 0
  AllMade entries = (entry : Key × KeptProfile) → Contains entries entry → IsMade world stored entry

  -- those of an empty cache
  pub made-none : AllMade []
  made-none entry within = absurd (Contains-nil entry within)

  -- those of a cache in which a key is the latest
  pub made-promoted : (test : Key → Bool) (entries : List (Key × KeptProfile)) → AllMade entries → AllMade (promoted test entries)
  made-promoted test entries all entry within = all entry (Contains-promoted test entries entry within)

  module _ (eq : Key → Key → Bool) (same : (a b : Key) → eq a b ≡ true → a ≡ b) where
    -- the key of an entry that was put
    key-put : (cache : LruCache Key KeptProfile) (key found : Key) →
        (found ≡ key) ⊎ ((w : KeptProfile) × Contains cache.entries (found, w) × (eq key found ≡ true)) → found ≡ key
    key-put cache key found (inl is) = is
    key-put cache key found (inr there) = sym (same key found there.2)

    -- those of a cache into which one more is put
    pub made-put : (cache : LruCache Key KeptProfile) (key : Key) (ready : KeptProfile) → AllMade cache.entries →
        IsMade world stored (key, ready) → AllMade (put_entries eq cache key ready)
    made-put cache key ready all made entry within = elim (Contains-put_entries eq cache key ready entry within) [
      | inl before ↦ all entry before
      | inr put ↦ subst (IsMade world stored) (sym (λ i. (key-put cache key entry.0 put.1 i, put.0 i))) made
    ]

    -- so are those of a cache after one more was put into it, or there was no memory for it
    pub made-after : {V E : Type 0} (result : Result V E) (old new : LruCache Key KeptProfile) (key : Key) (ready : KeptProfile) →
        OnOk result (new ≡ lru_cache (put_entries eq old key ready) old.cap) → OnErr result (new ≡ old) → AllMade old.entries →
        IsMade world stored (key, ready) → AllMade new.entries
    made-after (Ok v) old new key ready put kept all made =
        subst (λ (c : LruCache Key KeptProfile). AllMade c.entries) (sym put) (made-put old key ready all made)
    made-after (Err e) old new key ready put kept all made = subst (λ (c : LruCache Key KeptProfile). AllMade c.entries) (sym kept) all

    -- what is found under a key was made for it
    pub made-found : (entries : List (Key × KeptProfile)) (key : Key) (ready : KeptProfile) → AllMade entries →
        lookup (eq key) entries ≡ Some ready → IsMade world stored (key, ready)
    made-found entries key ready all found =
        let there = Contains-lookup (eq key) entries ready found in
        subst (λ k. IsMade world stored (k, ready)) (sym (same key there.0 there.2)) (all (there.0, ready) there.1)

    -- what is seen under a key was made for it
    pub made-seen : (seen : Option (Bor KeptProfile)) (kept : Bor KeptProfile) (entries : List (Key × KeptProfile)) (key : Key) → seen ≡ Some kept →
        option_copied seen ≡ lookup (eq key) entries → AllMade entries → IsMade world stored (key, kept.now)
    made-seen seen kept entries key is found all =
        made-found entries key kept.now all (sym found ∙ ap option_copied is)
