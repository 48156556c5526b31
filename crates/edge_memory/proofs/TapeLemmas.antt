-- What the notes of a tape stand for, note by note.
use Rattle.std.proofs.Common.{◌≡◌, ◌==◌, ◌≤◌, ◌<◌, ◌+◌, ℕ, zero, suc, true, false, List, [], ◌∷◌, ◌++◌, length, take, drop, map, get_or, refl, sym, ◌∙◌, ap, cond, arith, append_assoc, append-nil, length-append}
use Rattle.std.proofs.lemmas.List.{take-append-le, drop-append-le, length-drop}
use Rattle.std.proofs.Math.Seq.{drop-append_seam, take-length}
use Rattle.edge_io.specs.Acts.{Act, Listens, Gave, Took, Broke, Closed, Traffic, after_own, after_act, after_acts}
use Rattle.edge_memory.specs.MemoryHub.{listened}
use Rattle.edge_memory.specs.Tape.{act_of, IsNotedWithin, AreNotedWithin, listened_by, sent_by, noted_bytes}
use Rattle.edge_io.specs.declared.event.Event.{Event}
use Rattle.edge_io.specs.declared.event.Event.TheVariants.{Opened, Bytes, Ended, Lost, Quiet, Over}
use Rattle.edge_memory.specs.declared.note.Note as Kept
use Rattle.edge_memory.specs.declared.script.Script as Entry

-- one more note within
pub within-more : (sent : List ℕ) (notes : List Kept.Note) (note : Kept.Note) → AreNotedWithin sent notes → IsNotedWithin sent note →
    AreNotedWithin sent (notes ++ (note ∷ []))
within-more sent [] note all one = (one, tt)
within-more sent (n ∷ notes) note all one = (all.0, within-more sent notes note all.1 one)

-- a note stays within where more was sent
within-longer : (sent bytes : List ℕ) (note : Kept.Note) → IsNotedWithin sent note → IsNotedWithin (sent ++ bytes) note
within-longer sent bytes (Kept.TheVariants.Listens from n hangup) one = omega (arith, length-append sent bytes)
within-longer sent bytes (Kept.TheVariants.Gave event place from) one = tt
within-longer sent bytes (Kept.TheVariants.Took id from n) one = omega (arith, length-append sent bytes)
within-longer sent bytes (Kept.TheVariants.Broke id) one = tt
within-longer sent bytes (Kept.TheVariants.Closed id) one = tt

-- all notes stay within where more was sent
pub within-extended : (sent bytes : List ℕ) (notes : List Kept.Note) → AreNotedWithin sent notes → AreNotedWithin (sent ++ bytes) notes
within-extended sent bytes [] all = tt
within-extended sent bytes (n ∷ notes) all = (within-longer sent bytes n all.0, within-extended sent bytes notes all.1)

-- a note of a list is within
pub within-at : (sent : List ℕ) (notes : List Kept.Note) (k : ℕ) (d : Kept.Note) → AreNotedWithin sent notes → k < length notes →
    IsNotedWithin sent (get_or notes k d)
within-at sent [] k d all there = absurd (omega arith)
within-at sent (n ∷ notes) zero d all there = all.0
within-at sent (n ∷ notes) (suc k) d all there = within-at sent notes k d all.1 (omega arith)

-- bytes within a list are the same in a longer one
slice-longer : (sent bytes : List ℕ) (from n : ℕ) → from + n ≤ length sent → take n (drop from (sent ++ bytes)) ≡ take n (drop from sent)
slice-longer sent bytes from n within =
    let start : from ≤ length sent = omega arith in
    ap (λ (xs : List ℕ). take n xs) (drop-append-le from sent bytes start)
    ∙ take-append-le n (drop from sent) bytes (omega (arith, length-drop from sent))

-- a note stands for the same act where more was sent
act-longer : (script : List Entry.Script) (sent bytes : List ℕ) (note : Kept.Note) → IsNotedWithin sent note →
    act_of script (sent ++ bytes) note ≡ act_of script sent note
act-longer script sent bytes (Kept.TheVariants.Listens from n hangup) one = ap (λ (xs : List ℕ). Listens xs hangup) (slice-longer sent bytes from n one)
act-longer script sent bytes (Kept.TheVariants.Gave event place from) one = refl
act-longer script sent bytes (Kept.TheVariants.Took id from n) one = ap (λ (xs : List ℕ). Took id xs) (slice-longer sent bytes from n one)
act-longer script sent bytes (Kept.TheVariants.Broke id) one = refl
act-longer script sent bytes (Kept.TheVariants.Closed id) one = refl

-- all notes do
pub acts-extended : (script : List Entry.Script) (sent bytes : List ℕ) (notes : List Kept.Note) → AreNotedWithin sent notes →
    map (act_of script (sent ++ bytes)) notes ≡ map (act_of script sent) notes
acts-extended script sent bytes [] all = refl
acts-extended script sent bytes (n ∷ notes) all =
    let here : act_of script (sent ++ bytes) n ≡ act_of script sent n = act-longer script sent bytes n all.0 in
    let rest : map (act_of script (sent ++ bytes)) notes ≡ map (act_of script sent) notes = acts-extended script sent bytes notes all.1 in
    cc

-- the act of one more note stands behind those before
pub acts-more : (script : List Entry.Script) (sent : List ℕ) (notes : List Kept.Note) (note : Kept.Note) →
    map (act_of script sent) (notes ++ (note ∷ [])) ≡ map (act_of script sent) notes ++ (act_of script sent note ∷ [])
acts-more script sent [] note = refl
acts-more script sent (n ∷ notes) note = ap (λ (xs : List Act). act_of script sent n ∷ xs) (acts-more script sent notes note)

-- the bytes that notes say were sent to a connection
abbrev pub sent_in : ℕ → List ℕ → List Kept.Note → List ℕ
sent_in id sent [] = []
sent_in id sent (n ∷ notes) = sent_by id sent n ++ sent_in id sent notes

-- an event changes nothing of what was sent
sent-event : (id : ℕ) (t : Traffic) (event : Event) (bytes : List ℕ) → (after_act id t (Gave event bytes)).sent ≡ t.sent
sent-event id t (Opened at) bytes =
    elim (at == id) as (λ b. (cond b (after_own t (Gave (Opened at) bytes)) t).sent ≡ t.sent) [ true ↦ refl | false ↦ refl ]
sent-event id t (Bytes at n) bytes =
    elim (at == id) as (λ b. (cond b (after_own t (Gave (Bytes at n) bytes)) t).sent ≡ t.sent) [ true ↦ refl | false ↦ refl ]
sent-event id t (Ended at) bytes = elim (at == id) as (λ b. (cond b (after_own t (Gave (Ended at) bytes)) t).sent ≡ t.sent) [
  | true ↦
      refl
  | false ↦ refl
]
sent-event id t (Lost at) bytes = elim (at == id) as (λ b. (cond b (after_own t (Gave (Lost at) bytes)) t).sent ≡ t.sent) [
  | true ↦
      refl
  | false ↦ refl
]
sent-event id t Quiet bytes = refl
sent-event id t Over bytes = refl

-- what was sent after one more note
sent-note : (id : ℕ) (script : List Entry.Script) (sent : List ℕ) (t : Traffic) (note : Kept.Note) →
    (after_act id t (act_of script sent note)).sent ≡ t.sent ++ sent_by id sent note
sent-note id script sent t (Kept.TheVariants.Listens from n hangup) = sym (append-nil t.sent)
sent-note id script sent t (Kept.TheVariants.Gave event place from) = sent-event id t event (noted_bytes script event place from)
    ∙ sym (append-nil _)
sent-note id script sent t (Kept.TheVariants.Took to from n) =
    elim (to == id) as (λ b. (cond b (after_own t (Took to (take n (drop from sent)))) t).sent ≡ t.sent ++
    cond b (take n (drop from sent)) []) [ true ↦ refl | false ↦ sym (append-nil _) ]
sent-note id script sent t (Kept.TheVariants.Broke at) =
    elim (at == id) as (λ b. (cond b (after_own t (Broke at)) t).sent ≡ t.sent ++ []) [
      | true ↦ sym (append-nil _)
      | false ↦
          sym (append-nil _)
    ]
sent-note id script sent t (Kept.TheVariants.Closed at) =
    elim (at == id) as (λ b. (cond b (after_own t (Closed at)) t).sent ≡ t.sent ++ []) [
      | true ↦ sym (append-nil _)
      | false ↦
          sym (append-nil _)
    ]

-- what was sent to a connection is what the notes say, in their order
pub sent-after : (id : ℕ) (script : List Entry.Script) (sent : List ℕ) (notes : List Kept.Note) (t : Traffic) →
    (after_acts id t (map (act_of script sent) notes)).sent ≡ t.sent ++ sent_in id sent notes
sent-after id script sent [] t = sym (append-nil _)
sent-after id script sent (n ∷ notes) t =
    sent-after id script sent notes (after_act id t (act_of script sent n))
    ∙ ap (λ (xs : List ℕ). xs ++ sent_in id sent notes) (sent-note id script sent t n)
    ∙ append_assoc t.sent (sent_by id sent n) (sent_in id sent notes)

-- the notes from a place on begin with the one there
pub sent-here : (id : ℕ) (sent : List ℕ) (notes : List Kept.Note) (k : ℕ) (d : Kept.Note) → k < length notes →
    sent_in id sent (drop k notes) ≡ sent_by id sent (get_or notes k d) ++ sent_in id sent (drop (suc k) notes)
sent-here id sent [] k d there = absurd (omega arith)
sent-here id sent (n ∷ notes) zero d there = refl
sent-here id sent (n ∷ notes) (suc k) d there = sent-here id sent notes k d (omega arith)

-- beyond the last note nothing was sent
pub sent-end : (id : ℕ) (sent : List ℕ) (notes : List Kept.Note) (k : ℕ) → length notes ≤ k → sent_in id sent (drop k notes) ≡ []
sent-end id sent [] zero beyond = refl
sent-end id sent [] (suc k) beyond = refl
sent-end id sent (n ∷ notes) zero beyond = absurd (omega arith)
sent-end id sent (n ∷ notes) (suc k) beyond = sent-end id sent notes k (omega arith)

-- ---- Where the hub listened

-- the addresses of notes
abbrev pub listened_in : List ℕ → List Kept.Note → List ℕ
listened_in kept [] = []
listened_in kept (n ∷ notes) = listened_by kept n ++ listened_in kept notes

-- one note more in front
listened-note : (script : List Entry.Script) (kept : List ℕ) (note : Kept.Note) (acts : List Act) →
    listened (act_of script kept note ∷ acts) ≡ listened_by kept note ++ listened acts
listened-note script kept (Kept.TheVariants.Listens from n hangup) acts = refl
listened-note script kept (Kept.TheVariants.Gave event place from) acts = refl
listened-note script kept (Kept.TheVariants.Took id from n) acts = refl
listened-note script kept (Kept.TheVariants.Broke id) acts = refl
listened-note script kept (Kept.TheVariants.Closed id) acts = refl

-- the addresses of acts are those of the notes, in their order
pub listened-all : (script : List Entry.Script) (kept : List ℕ) (notes : List Kept.Note) →
    listened (map (act_of script kept) notes) ≡ listened_in kept notes
listened-all script kept [] = refl
listened-all script kept (n ∷ notes) =
    listened-note script kept n (map (act_of script kept) notes)
    ∙ ap (λ (xs : List ℕ). listened_by kept n ++ xs) (listened-all script kept notes)

-- the notes from a place on begin with the one there
pub listened-here : (kept : List ℕ) (notes : List Kept.Note) (k : ℕ) (d : Kept.Note) → k < length notes →
    listened_in kept (drop k notes) ≡ listened_by kept (get_or notes k d) ++ listened_in kept (drop (suc k) notes)
listened-here kept [] k d there = absurd (omega arith)
listened-here kept (n ∷ notes) zero d there = refl
listened-here kept (n ∷ notes) (suc k) d there = listened-here kept notes k d (omega arith)

-- beyond the last note there is no address
pub listened-end : (kept : List ℕ) (notes : List Kept.Note) (k : ℕ) → length notes ≤ k → listened_in kept (drop k notes) ≡ []
listened-end kept [] zero beyond = refl
listened-end kept [] (suc k) beyond = refl
listened-end kept (n ∷ notes) zero beyond = absurd (omega arith)
listened-end kept (n ∷ notes) (suc k) beyond = listened-end kept notes k (omega arith)

-- ---- Acts with bytes

-- the bytes that were kept last are those that were added
kept-last : (sent bytes : List ℕ) (from n : ℕ) → from ≡ length sent → n ≡ length bytes → take n (drop from (sent ++ bytes)) ≡ bytes
kept-last sent bytes from n is_from is_n =
    rw (is_from, is_n) (ap (λ (xs : List ℕ). take (length bytes) xs) (drop-append_seam sent bytes) ∙ take-length bytes)

-- the acts after an act with these bytes was noted
pub acts-kept : (act : List ℕ → Act) (note : Kept.Note) (script : List Entry.Script) (sent bytes longer : List ℕ)
    (notes more : List Kept.Note) (from n : ℕ) → act_of script (sent ++ bytes) note ≡ act (take n (drop from (sent ++ bytes))) →
    longer ≡ sent ++ bytes → more ≡ notes ++ (note ∷ []) → from ≡ length sent → n ≡ length bytes → AreNotedWithin sent notes
    → map (act_of script longer) more ≡ map (act_of script sent) notes ++ (act bytes ∷ [])
acts-kept act note script sent bytes longer notes more from n is is_longer is_more is_from is_n within =
    rw (is_longer, is_more)
    (acts-more script (sent ++ bytes) notes note
    ∙ ap (λ (xs : List Act). xs ++ (act_of script (sent ++ bytes) note ∷ [])) (acts-extended script sent bytes notes within)
    ∙ ap (λ (x : Act). map (act_of script sent) notes ++ (x ∷ []))
    (is ∙ ap act (kept-last sent bytes from n is_from is_n)))
