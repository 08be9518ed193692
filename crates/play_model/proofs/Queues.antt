-- The account of one link, as a step takes out of it and gives into it.
use Rattle.std.proofs.Common.{◌≡◌, ◌⊎◌, inl, inr, ℕ, ◌+◌, ◌-◌, ◌<◌, ◌≤◌, Bool, true, false, nat_le, List, [], ◌∷◌, ◌++◌, refl, sym, ◌∙◌, ap, append_assoc, arith}
use Rattle.std.proofs.lemmas.Bool.{leb-true, leb-false}
use Rattle.play_model.specs.Network.{Filled, LinkState, queue, frames_in}
use Rattle.play_model.specs.Moves.{sent_on, took, took_front, gave, IsEnding, IsFront}
use Rattle.play_model.specs.Account.{EndsWith, IsFilled, AreFilled, Account}

-- the two ways of a test
pub either : {A : Type 0} (b : Bool) → (b ≡ true → A) → (b ≡ false → A) → A
either true yes_ no_ = yes_ refl
either false yes_ no_ = no_ refl

pub both : {A : Type 0} (b : Bool) → b ≡ true → b ≡ false → A
both b t f = let e : true ≡ false = sym t ∙ f in absurd cc

-- ---- where the end of the stream stands

ends_tail : (over : Bool) (h : Filled) (q : List Filled) → EndsWith over (h ∷ q) → h.last ≡ false → EndsWith over q
ends_tail over h [] e f = sym e ∙ f
ends_tail over h (k ∷ q) e f = e.1

ends_last : (over : Bool) (h : Filled) (q : List Filled) → EndsWith over (h ∷ q) → h.last ≡ true → (q ≡ []) × (over ≡ true)
ends_last over h [] e t = (refl, sym e ∙ t)
ends_last over h (k ∷ q) e t = both h.last t e.0

ends_head : (over : Bool) (h : Filled) (n : ℕ) (q : List Filled) → EndsWith over (h ∷ q) → EndsWith over (record h { frames = n } ∷ q)
ends_head over h n [] e = e
ends_head over h n (k ∷ q) e = e

ends_push : (last : Bool) (q : List Filled) (b : Filled) → EndsWith false q → b.last ≡ last → EndsWith last (q ++ b ∷ [])
ends_push last [] b e t = t
ends_push last (h ∷ []) b e t = (e, t)
ends_push last (h ∷ k ∷ q) b e t = (e.0, ends_push last (k ∷ q) b e.1 t)

-- a header of a stream that hasn't ended has frames
pub front_frames : (h : Filled) (q : List Filled) → EndsWith false (h ∷ q) → IsFilled h → 0 < h.frames
front_frames h [] e (inl f) = f
front_frames h [] e (inr t) = both h.last t e
front_frames h (k ∷ q) e (inl f) = f
front_frames h (k ∷ q) e (inr t) = both h.last t e.0

pub frames_push : (q : List Filled) (b : Filled) → frames_in (q ++ b ∷ []) ≡ frames_in q + b.frames
frames_push [] b = omega arith
frames_push (h ∷ q) b = let i = frames_push q b in omega arith

filled_push : (q : List Filled) (b : Filled) → AreFilled q → IsFilled b → AreFilled (q ++ b ∷ [])
filled_push [] b a f = (f, tt)
filled_push (h ∷ q) b a f = (a.0, filled_push q b a.1 f)

-- ---- what a step takes

abbrev link_of : ℕ → List Filled → List Filled → ℕ → ℕ → Bool → LinkState
link_of ready sent held spent taken closed = record { ready = ready; sent = sent; held = held; spent = spent; taken = taken; closed = closed }

abbrev pub AccountOf : ℕ → Bool → ℕ → LinkState → Type 0
AccountOf given over reached x = Account given over reached x.taken x.closed (queue x)

took_open : (given : ℕ) (over : Bool) (reached n ready : ℕ) (sent held : List Filled) (spent taken : ℕ) →
    AccountOf given over reached (link_of ready sent held spent taken false) →
    IsFront (λ h. (n ≤ h.frames) ⊎ IsEnding h) held →
    AccountOf given over (reached + n) (took_front n held (link_of ready sent held spent taken false))
took_open given over reached n ready sent [] spent taken A F = absurd F
took_open given over reached n ready sent (h ∷ rest) spent taken A F =
    let level : taken ≡ reached = A.level refl in
    let ends : EndsWith over (h ∷ (rest ++ sent)) = A.ends refl in
    either (nat_le h.frames n)
    (λ t.
    let le : h.frames ≤ n = leb-true _ _ t in
    rw t (record {
      balance = let b = A.balance in omega arith;
      level = λ f. elim F [ inl more ↦ omega arith | inr e ↦ both h.last e.1 f ];
      behind = omega arith;
      ends = λ f. ends_tail over h (rest ++ sent) ends f;
      after = λ l. ends_last over h (rest ++ sent) ends l;
      carries = A.carries.1;
    }))
    (λ f.
    let lt : n < h.frames = leb-false _ _ f in
    rw f (record {
      balance = let b = A.balance in omega arith;
      level = λ _. omega arith;
      behind = omega arith;
      ends = λ _. ends_head over h (h.frames - n) (rest ++ sent) ends;
      after = λ l. both false l refl;
      carries = (inl (omega arith), A.carries.1);
    }))

pub took_keeps : (given : ℕ) (over : Bool) (reached n : ℕ) (x : LinkState) →
    AccountOf given over reached x →
    (x.closed ≡ false → IsFront (λ h. (n ≤ h.frames) ⊎ IsEnding h) x.held) →
    AccountOf given over (reached + n) (took n x)
took_keeps given over reached n x A F = either x.closed
    (λ t. rw t (record {
      balance = A.balance;
      level = λ f. both true refl f;
      behind = let b = A.behind in omega arith;
      ends = λ f. both true refl f;
      after = λ _. A.after t;
      carries = A.carries;
    }))
    (λ f. rw f (took_open given over reached n x.ready x.sent x.held x.spent x.taken (rw f at A) (F f)))

-- ---- what a step gives

pub gave_keeps : (given reached n : ℕ) (last : Bool) (x : LinkState) →
    AccountOf given false reached x →
    (0 < n) ⊎ (last ≡ true) →
    AccountOf (given + n) last reached (gave n last x)
gave_keeps given reached n last x A F =
    let b : Filled = record { frames = n; last = last } in
    let same : x.held ++ (x.sent ++ b ∷ []) ≡ queue x ++ b ∷ [] = sym (append_assoc x.held x.sent (b ∷ [])) in
    let open_ : x.closed ≡ false = either x.closed (λ t. both false (A.after t).1 refl) (λ f. f) in
    rw same (record {
      balance = let e = A.balance in let p = frames_push (queue x) b in omega arith;
      level = A.level;
      behind = A.behind;
      ends = λ f. ends_push last (queue x) b (A.ends f) refl;
      after = λ t. both x.closed t open_;
      carries = filled_push (queue x) b A.carries F;
    })

-- ---- a header that goes on or comes back

pub sent_on_queue : (x : LinkState) (q : List Filled) → x.sent ≡ q → queue (sent_on q x) ≡ queue x
sent_on_queue x [] e = refl
sent_on_queue x (h ∷ q) e = append_assoc x.held (h ∷ []) q ∙ ap (λ (z : List Filled). x.held ++ z) (sym e)
