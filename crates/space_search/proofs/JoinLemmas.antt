-- What the fronts are once a label joined one of them.
use Rattle.std.proofs.Common.{◌≡◌, ◌≢◌, ℕ, ◌<◌, ◌≤◌, ◌⊎◌, inl, inr, List, [], ◌∷◌, ◌++◌, length, set, get_or, Some, refl, ap, arith, sym, ◌∙◌, subst, length-append, length-set}
use Rattle.std.proofs.lemmas.Bool.{cases_eq}
use Rattle.std.proofs.lemmas.List.{append-nil, get_or_append_left, get_or-set_same, get_or-set_other}
use Rattle.std.proofs.Math.Seq.{get_or-append_seam}
use Rattle.std.specs.List.{slice_get, Contains}
use Rattle.space_search.specs.Blocks.{members_of, AreFloors, HaveFloors, IsPair}
use Rattle.space_search.specs.Fronts.{Asked, AreFronts, IsAsked, IsHead, Gains, Joins, alone, front_at, member_of}
use Rattle.space_search.specs.Laws.{Supersedes}
use Rattle.space_search.specs.Rules.{Rules}
use Rattle.space_search.specs.declared.fronts.Block.{Block}
use Rattle.space_search.specs.declared.fronts.Head.{Head}
use Rattle.space_search.specs.declared.fronts.Head.TheVariants.{Empty, One, Many}
use Rattle.space_search.specs.declared.fronts.Member.{Member}
use Rattle.space_search.specs.declared.label.Label.{Label}
use Rattle.item_list.proofs.ListLemmas.{slice_get-set, slice_get-push_cases, slice_get-set_cases, Contains-none}
use Rattle.space_search.proofs.BlockLemmas.{slice_get-set_other}
use Rattle.space_search.proofs.FrontLemmas.{asked-at, alone-here, alone-is}
use Rattle.space_search.proofs.ThinLemmas.{IsBelow}

module _ {S : Type 0} (rules : Rules S) (one : Member S) where
  module _ (before : Asked S) (fronts : AreFronts before) (slot : ℕ) where
    -- the head of the slot is another one, and fronts are added
    module _ (head : Head) (extra : List (List (Block S))) (within : slot < length before.heads) where
      -- the fronts afterwards
      abbrev headed : Asked S
      headed = record { labels = before.labels; heads = set before.heads slot head; many = before.many ++ extra }

      -- a front that there is stays
      front-stays : (h : Head) → IsHead before h → front_at headed h ≡ front_at before h
      front-stays Empty is = refl
      front-stays (One number) is = refl
      front-stays (Many place) is = ap members_of (get_or_append_left before.many extra [] place is)

      -- and there still is one
      head-stays : (h : Head) → IsHead before h → IsHead headed h
      head-stays Empty is = tt
      head-stays (One number) is = is
      head-stays (Many place) is = omega (arith, is, length-append before.many extra)

      module _ (is_head : IsHead headed head) (own : (place : ℕ) → head ≡ Many place → length before.many ≤ place)
          (from : (other : Member S) → Contains (front_at headed head) other → IsAsked before slot other ⊎ (one ≡ other))
          (new : Contains (front_at headed head) one)
          (rest : (other : Member S) → IsAsked before slot other → Contains (front_at headed head) other ⊎ IsBelow rules one other)
          (floors : AreFloors rules (before.many ++ extra)) where
        -- the slot has the new head
        here : slice_get (set before.heads slot head) slot ≡ Some head
        here = slice_get-set before.heads slot head within

        -- another slot has a front of several labels that no slot with the new head has
        not-own : (other place : ℕ) → slice_get before.heads other ≡ Some (Many place) → head ≡ Many place → ⊥
        not-own other place at is =
            let inside : place < length before.many = fronts.heads other (Many place) at in
            omega (arith, inside, own place is)

        -- each slot has a front
        fronts-headed : AreFronts headed
        fronts-headed =
            record {
              heads = λ c h at.
                  elim (slice_get-set_cases before.heads slot head c h at) [
                    | inl (apart, old) ↦ head-stays h (fronts.heads c h old)
                    | inr (at_slot, same) ↦ subst (λ (k : Head). IsHead headed k) same is_head
                  ];
              apart = λ a b place p q.
                  elim (slice_get-set_cases before.heads slot head a (Many place) p) [
                    | inl (a_apart, a_old) ↦
                        elim (slice_get-set_cases before.heads slot head b (Many place) q) [
                          | inl (b_apart, b_old) ↦ fronts.apart a b place a_old b_old
                          | inr (b_slot, b_is) ↦ absurd (not-own a place a_old b_is)
                        ]
                    | inr (a_slot, a_is) ↦
                        elim (slice_get-set_cases before.heads slot head b (Many place) q) [
                          | inl (b_apart, b_old) ↦ absurd (not-own b place b_old a_is)
                          | inr (b_slot, b_is) ↦ a_slot ∙ sym b_slot
                        ]
                  ];
            }

        -- the label joined
        pub joins-headed : Joins rules before headed slot one
        joins-headed =
            record {
              slots = length-set before.heads slot head;
              fronts = fronts-headed;
              floors = floors;
              from = λ c other is.
                  elim (slice_get-set_cases before.heads slot head c is.head is.at) [
                    | inl (apart, old) ↦
                        inl (record {
                          head = is.head;
                          at = old;
                          among =
                              subst (λ (l : List (Member S)). Contains l other) (front-stays is.head (fronts.heads c is.head old))
                              is.among;
                        })
                    | inr (at_slot, same) ↦
                        elim (from other (subst (λ (h : Head). Contains (front_at headed h) other) (sym same) is.among)) [
                          | inl old ↦ inl (subst (λ n. IsAsked before n other) (sym at_slot) old)
                          | inr new_one ↦ inr (at_slot, new_one)
                        ]
                  ];
              new = record { head = head; at = here; among = new };
              rest = λ c other is.
                  elim (cases_eq c slot) [
                    | inl at_slot ↦
                        elim (rest other (subst (λ n. IsAsked before n other) at_slot is)) [
                          | inl stays ↦
                              inl (subst (λ n. IsAsked headed n other) (sym at_slot)
                              (record { head = head; at = here; among = stays }))
                          | inr below ↦ inr (at_slot, below)
                        ]
                    | inr apart ↦
                        inl (record {
                          head = is.head;
                          at = slice_get-set_other before.heads slot head c is.head apart is.at;
                          among =
                              subst (λ (l : List (Member S)). Contains l other)
                              (sym (front-stays is.head (fronts.heads c is.head is.at))) is.among;
                        })
                  ];
            }

    -- the front of several labels of the slot is another one
    module _ (place : ℕ) (front : List (Block S)) (at : slice_get before.heads slot ≡ Some (Many place))
        (gains : Gains rules one (members_of (get_or before.many place [])) (members_of front))
        (floors : AreFloors rules before.many) (floor : HaveFloors rules front) where
      -- the fronts afterwards
      abbrev gained : Asked S
      gained = record { labels = before.labels; heads = before.heads; many = set before.many place front }

      -- it is there
      place-in : place < length before.many
      place-in = fronts.heads slot (Many place) at

      -- it is the new one
      front-here : get_or (set before.many place front) place [] ≡ front
      front-here = get_or-set_same before.many place front [] place-in

      -- another slot's front stays
      front-other :
          (c : ℕ) → c ≢ slot → (h : Head) → slice_get before.heads c ≡ Some h → front_at gained h ≡ front_at before h
      front-other c apart Empty is = refl
      front-other c apart (One number) is = refl
      front-other c apart (Many other) is =
          ap members_of (get_or-set_other before.many place other front []
          (λ same. apart (fronts.apart c slot place (subst (λ n. slice_get before.heads c ≡ Some (Many n)) same is) at)))

      -- and there still is one
      head-there : (h : Head) → IsHead before h → IsHead gained h
      head-there Empty is = tt
      head-there (One number) is = is
      head-there (Many other) is = omega (arith, is, length-set before.many place front)

      -- the slot is asked what the new front has
      here-asked : (other : Member S) → Contains (members_of front) other → IsAsked gained slot other
      here-asked other h =
          record {
            head = Many place;
            at = at;
            among = subst (λ (l : List (Block S)). Contains (members_of l) other) (sym front-here) h;
          }

      -- the label joined
      pub joins-gained : Joins rules before gained slot one
      joins-gained =
          record {
            slots = refl;
            fronts =
                record {
                  heads = λ c h is. head-there h (fronts.heads c h is);
                  apart = fronts.apart;
                };
            floors = λ p blocks is.
                elim (slice_get-set_cases before.many place front p blocks is) [
                  | inl (apart, old) ↦ floors p blocks old
                  | inr (here, same) ↦ subst (λ (l : List (Block S)). HaveFloors rules l) same floor
                ];
            from = λ c other is.
                elim (cases_eq c slot) [
                  | inl at_slot ↦
                      let there : IsAsked gained slot other = subst (λ n. IsAsked gained n other) at_slot is in
                      let inside : Contains (members_of front) other =
                      subst (λ (l : List (Block S)). Contains (members_of l) other) front-here
                      (asked-at gained slot (Many place) other at there) in
                      elim (gains.from other inside) [
                        | inl old ↦
                            inl (subst (λ n. IsAsked before n other) (sym at_slot)
                            (record { head = Many place; at = at; among = old }))
                        | inr new_one ↦ inr (at_slot, new_one)
                      ]
                  | inr apart ↦
                      inl (record {
                        head = is.head;
                        at = is.at;
                        among =
                            subst (λ (l : List (Member S)). Contains l other) (front-other c apart is.head is.at) is.among;
                      })
                ];
            new = here-asked one gains.new;
            rest = λ c other is.
                elim (cases_eq c slot) [
                  | inl at_slot ↦
                      elim (gains.rest other
                      (asked-at before slot (Many place) other at (subst (λ n. IsAsked before n other) at_slot is))) [
                        | inl stays ↦ inl (subst (λ n. IsAsked gained n other) (sym at_slot) (here-asked other stays))
                        | inr below ↦ inr (at_slot, below)
                      ]
                  | inr apart ↦
                      inl (record {
                        head = is.head;
                        at = is.at;
                        among =
                            subst (λ (l : List (Member S)). Contains l other) (sym (front-other c apart is.head is.at)) is.among;
                      })
                ];
          }

  module _ (labels : List (Label S)) (heads : List Head) (many : List (List (Block S)))
      (fronts : AreFronts (record { labels = labels; heads = heads; many = many })) (floors : AreFloors rules many)
      (slot : ℕ) where
    -- the fronts before
    abbrev before : Asked S
    before = record { labels = labels; heads = heads; many = many }

    -- a label is the only one of its slot, where it supersedes what the slot was asked
    pub joins-alone :
        (number : ℕ) (label : Label S) (next : List Head) → slot < length heads → slice_get labels number ≡ Some label →
        member_of label ≡ one → ((other : Member S) → IsAsked before slot other → IsBelow rules one other) →
        next ≡ set heads slot (One number) →
        Joins rules before (record { labels = labels; heads = next; many = many }) slot one
    joins-alone number label next within at is below next-is =
        subst (λ (h : List Head). Joins rules before (record { labels = labels; heads = h; many = many }) slot one) (sym next-is)
        (subst
        (λ (m : List (List (Block S))). Joins rules before (record { labels = labels; heads = set heads slot (One number); many = m }) slot one)
        (append-nil many)
        (joins-headed before fronts slot (One number) [] within (label, at) (λ place same. let e : One number ≡ Many place = same in cc)
        (λ other h. inr (sym is ∙ alone-is labels number label other at h))
        (subst (λ (m : Member S). Contains (alone (slice_get labels number)) m) is (alone-here labels number label at))
        (λ other asked. inr (below other asked))
        (subst (λ (m : List (List (Block S))). AreFloors rules m) (sym (append-nil many)) floors)))

    -- a slot with an empty front is asked nothing
    pub below-none : slice_get heads slot ≡ Some Empty → (other : Member S) → IsAsked before slot other → IsBelow rules one other
    below-none at other asked = absurd (Contains-none other (asked-at before slot Empty other at asked))

    -- a slot with a front of one label is asked that
    pub asked-one :
        (number : ℕ) (old : Label S) (other : Member S) → slice_get heads slot ≡ Some (One number) →
        slice_get labels number ≡ Some old → IsAsked before slot other → member_of old ≡ other
    asked-one number old other at there asked =
        alone-is labels number old other there (asked-at before slot (One number) other at asked)

    -- so that is superseded where the label is
    pub below-one :
        (number : ℕ) (old : Label S) → slice_get heads slot ≡ Some (One number) → slice_get labels number ≡ Some old →
        Supersedes rules one.state one.cost old.state old.cost → (other : Member S) → IsAsked before slot other → IsBelow rules one other
    below-one number old at there supersedes other asked =
        subst (λ (m : Member S). IsBelow rules one m) (asked-one number old other at there asked) supersedes

    -- a label joins one that was the only one of its slot
    pub joins-pair :
        (number place : ℕ) (old : Label S) (front : List (Block S)) (next : List Head) (more : List (List (Block S))) →
        slot < length heads → slice_get heads slot ≡ Some (One number) → slice_get labels number ≡ Some old →
        place ≡ length many → IsPair (member_of old) one (members_of front) → HaveFloors rules front →
        more ≡ many ++ front ∷ [] → next ≡ set heads slot (Many place) →
        Joins rules before (record { labels = labels; heads = next; many = more }) slot one
    joins-pair number place old front next more within at there place-is pair floor more-is next-is =
        let reads : get_or (many ++ front ∷ []) place [] ≡ front = rw place-is (get_or-append_seam many front [] []) in
        subst (λ (h : List Head). Joins rules before (record { labels = labels; heads = h; many = more }) slot one) (sym next-is)
        (subst
        (λ (m : List (List (Block S))). Joins rules before (record { labels = labels; heads = set heads slot (Many place); many = m }) slot one)
        (sym more-is)
        (joins-headed before fronts slot (Many place) (front ∷ []) within
        (omega (arith, place-is, length-append many (front ∷ [])))
        (λ p same. let e : Many place ≡ Many p = same in let here : place ≡ p = cc in omega (arith, here, place-is))
        (λ other h.
        elim (pair.from other (subst (λ (l : List (Block S)). Contains (members_of l) other) reads h)) [
          | inl same ↦
              inl (record {
                head = One number;
                at = at;
                among =
                    subst (λ (m : Member S). Contains (alone (slice_get labels number)) m) same
                    (alone-here labels number old there);
              })
          | inr same ↦ inr same
        ])
        (subst (λ (l : List (Block S)). Contains (members_of l) one) (sym reads) pair.has_second)
        (λ other asked.
        inl (subst (λ (l : List (Block S)). Contains (members_of l) other) (sym reads)
        (subst (λ (m : Member S). Contains (members_of front) m) (asked-one number old other at there asked) pair.has_first)))
        (λ p blocks is.
        elim (slice_get-push_cases many front p blocks is) [
          | inl before_it ↦ floors p blocks before_it
          | inr (end, same) ↦ subst (λ (l : List (Block S)). HaveFloors rules l) same floor
        ])))

    -- a label joins a front of several
    pub joins-several :
        (place : ℕ) (old front : List (Block S)) (more : List (List (Block S))) → slice_get heads slot ≡ Some (Many place) →
        get_or many place [] ≡ old → Gains rules one (members_of old) (members_of front) → HaveFloors rules front →
        more ≡ set many place front →
        Joins rules before (record { labels = labels; heads = heads; many = more }) slot one
    joins-several place old front more at old-is gains floor more-is =
        subst (λ (m : List (List (Block S))). Joins rules before (record { labels = labels; heads = heads; many = m }) slot one)
        (sym more-is)
        (joins-gained before fronts slot place front at
        (subst (λ (l : List (Block S)). Gains rules one (members_of l) (members_of front)) (sym old-is) gains) floors floor)
