-- The flat list of headers, by their numbers: what is found and counted as a header is changed, removed and added.
use Rattle.std.proofs.Common.{◌≡◌, ◌≢◌, ℕ, ◌+◌, Bool, true, false, List, [], ◌∷◌, ◌++◌, Some, None, All, refl, sym, ◌∙◌, ap, subst, eqb-true, eq-eqb, ne_eqb, arith}
use Rattle.std.proofs.lemmas.Bool.{eqb-false}
use Rattle.std.proofs.lemmas.List.Elements.{All-nil, All-cons, All-head, All-tail}
use Rattle.il_machine.specs.declared.header.HeaderState.{HeaderState}
use Rattle.il_machine.specs.World.{HeaderRecord}
use Rattle.il_machine.specs.Headers.{find_header, has_number, count_headers, weight, Once, without, changed}

-- the two ways of a test
pub either : {A : Type 0} (b : Bool) → (b ≡ true → A) → (b ≡ false → A) → A
either true yes_ no_ = yes_ refl
either false yes_ no_ = no_ refl

pub found_head : (n : ℕ) (r : HeaderRecord) (rs : List HeaderRecord) → r.state.number ≡ n → find_header n (r ∷ rs) ≡ Some r
found_head n r rs e = rw (eq-eqb r.state.number n e) refl

pub found_tail : (n : ℕ) (r : HeaderRecord) (rs : List HeaderRecord) → r.state.number ≢ n → find_header n (r ∷ rs) ≡ find_header n rs
found_tail n r rs e = rw (ne_eqb r.state.number n e) refl

pub found_number : (n : ℕ) (hs : List HeaderRecord) (r : HeaderRecord) → find_header n hs ≡ Some r → r.state.number ≡ n
found_number n [] r h = absurd cc
found_number n (x ∷ hs) r h = either (has_number n x)
    (λ t. let s : Some x ≡ Some r = rw t at h in let e : x ≡ r = cc in rw (← e) (eqb-true _ _ t))
    (λ f. found_number n hs r (rw f at h))

pub found_is : (P : HeaderRecord → Type 0) (n : ℕ) (hs : List HeaderRecord) (r : HeaderRecord) → All P hs → find_header n hs ≡ Some r → P r
found_is P n [] r a h = absurd cc
found_is P n (x ∷ hs) r a h = either (has_number n x)
    (λ t. let s : Some x ≡ Some r = rw t at h in let e : x ≡ r = cc in subst P e (All-head P x hs a))
    (λ f. found_is P n hs r (All-tail P x hs a) (rw f at h))

none_below : (n : ℕ) (x : HeaderRecord) (hs : List HeaderRecord) → find_header n (x ∷ hs) ≡ None → (x.state.number ≢ n) × (find_header n hs ≡ None)
none_below n x hs h = either (has_number n x)
    (λ t. let s : Some x ≡ None = rw t at h in absurd cc)
    (λ f. (eqb-false _ _ f, rw f at h))

-- what is true of each header that is found is true of all
pub found_all : (P : HeaderRecord → Type 0) (hs : List HeaderRecord) → Once hs → ((n : ℕ) (r : HeaderRecord) → find_header n hs ≡ Some r → P r) → All P hs
found_all P [] o h = All-nil P
found_all P (x ∷ hs) o h = All-cons P x hs (h x.state.number x (found_head x.state.number x hs refl)) (found_all P hs o.1 (λ n r f.
    let apart : x.state.number ≢ n = λ e. let a : find_header n hs ≡ None = rw e at o.0 in absurd cc in
    h n r (found_tail n x hs apart ∙ f)))

-- ---- one less

pub without_else : (n m : ℕ) (hs : List HeaderRecord) → m ≢ n → find_header m (without n hs) ≡ find_header m hs
without_else n m [] a = refl
without_else n m (x ∷ hs) a = either (has_number n x)
    (λ t. let e : x.state.number ≡ n = eqb-true _ _ t in rw t (sym (found_tail m x hs (λ k. a (sym k ∙ e)))))
    (λ f. let i = without_else n m hs a in rw f (either (has_number m x) (λ t. rw t refl) (λ g. rw g i)))

pub without_none : (n m : ℕ) (hs : List HeaderRecord) → find_header m hs ≡ None → find_header m (without n hs) ≡ None
without_none n m [] h = refl
without_none n m (x ∷ hs) h = let b = none_below m x hs h in either (has_number n x)
    (λ t. rw t b.1)
    (λ f. let i = without_none n m hs b.1 in rw f (found_tail m x (without n hs) b.0 ∙ i))

pub without_same : (n : ℕ) (hs : List HeaderRecord) → Once hs → find_header n (without n hs) ≡ None
without_same n [] o = refl
without_same n (x ∷ hs) o = either (has_number n x)
    (λ t. let e : x.state.number ≡ n = eqb-true _ _ t in rw t (rw e at o.0))
    (λ f. rw f (found_tail n x (without n hs) (eqb-false _ _ f) ∙ without_same n hs o.1))

pub once_without : (n : ℕ) (hs : List HeaderRecord) → Once hs → Once (without n hs)
once_without n [] o = tt
once_without n (x ∷ hs) o = either (has_number n x) (λ t. rw t o.1) (λ f. rw f (without_none n x.state.number hs o.0, once_without n hs o.1))

pub count_without : (test : HeaderState → Bool) (n : ℕ) (hs : List HeaderRecord) (r : HeaderRecord) → find_header n hs ≡ Some r → count_headers test (without n hs) + weight (test r.state) ≡ count_headers test hs
count_without test n [] r h = absurd cc
count_without test n (x ∷ hs) r h = either (has_number n x)
    (λ t. let s : Some x ≡ Some r = rw t at h in let e : x ≡ r = cc in rw (t, e) (omega arith))
    (λ f. let g : find_header n hs ≡ Some r = rw f at h in let i = count_without test n hs r g in rw f (omega (arith, i)))

-- ---- one more at the end

pub push_found : (m : ℕ) (hs : List HeaderRecord) (r s : HeaderRecord) → find_header m hs ≡ Some s → find_header m (hs ++ r ∷ []) ≡ Some s
push_found m [] r s h = absurd cc
push_found m (x ∷ hs) r s h = either (has_number m x) (λ t. rw t (rw t at h)) (λ f. rw f (push_found m hs r s (rw f at h)))

pub push_last : (hs : List HeaderRecord) (r : HeaderRecord) → find_header r.state.number hs ≡ None → find_header r.state.number (hs ++ r ∷ []) ≡ Some r
push_last [] r h = found_head r.state.number r [] refl
push_last (x ∷ hs) r h = let b = none_below r.state.number x hs h in found_tail r.state.number x (hs ++ r ∷ []) b.0 ∙ push_last hs r b.1

pub push_else : (m : ℕ) (hs : List HeaderRecord) (r : HeaderRecord) → r.state.number ≢ m → find_header m (hs ++ r ∷ []) ≡ find_header m hs
push_else m [] r a = found_tail m r [] a
push_else m (x ∷ hs) r a = let i = push_else m hs r a in either (has_number m x) (λ t. rw t refl) (λ f. rw f i)

pub once_push : (hs : List HeaderRecord) (r : HeaderRecord) → Once hs → find_header r.state.number hs ≡ None → Once (hs ++ r ∷ [])
once_push [] r o h = (refl, tt)
once_push (x ∷ hs) r o h =
    let b = none_below r.state.number x hs h in
    (push_else x.state.number hs r (λ e. b.0 (sym e)) ∙ o.0, once_push hs r o.1 b.1)

pub count_push : (test : HeaderState → Bool) (hs : List HeaderRecord) (r : HeaderRecord) → count_headers test (hs ++ r ∷ []) ≡ count_headers test hs + weight (test r.state)
count_push test [] r = omega arith
count_push test (x ∷ hs) r = omega (arith, count_push test hs r)

-- ---- one more at the front

pub count_front : (test : HeaderState → Bool) (hs : List HeaderRecord) (r : HeaderRecord) → count_headers test (r ∷ hs) ≡ count_headers test hs + weight (test r.state)
count_front test hs r = omega arith

-- ---- one that is changed where it stands

module _ (change : HeaderRecord → HeaderRecord) (keeps : (r : HeaderRecord) → (change r).state.number ≡ r.state.number) where
  pub changed_same : (n : ℕ) (hs : List HeaderRecord) (r : HeaderRecord) → find_header n hs ≡ Some r → find_header n (changed n change hs) ≡ Some (change r)
  changed_same n [] r h = absurd cc
  changed_same n (x ∷ hs) r h = either (has_number n x)
      (λ t. let s : Some x ≡ Some r = rw t at h in let e : x ≡ r = cc in rw t (found_head n (change x) hs (keeps x ∙ eqb-true _ _ t) ∙ rw e refl))
      (λ f. rw f (found_tail n x (changed n change hs) (eqb-false _ _ f) ∙ changed_same n hs r (rw f at h)))

  pub changed_else : (n m : ℕ) (hs : List HeaderRecord) → m ≢ n → find_header m (changed n change hs) ≡ find_header m hs
  changed_else n m [] a = refl
  changed_else n m (x ∷ hs) a = either (has_number n x)
      (λ t.
      let e : x.state.number ≡ n = eqb-true _ _ t in
      rw t (found_tail m (change x) hs (λ k. a (sym k ∙ (keeps x ∙ e))) ∙ sym (found_tail m x hs (λ k. a (sym k ∙ e)))))
      (λ f. let i = changed_else n m hs a in rw f (either (has_number m x) (λ t. rw t refl) (λ g. rw g i)))

  pub changed_none : (n m : ℕ) (hs : List HeaderRecord) → find_header m hs ≡ None → find_header m (changed n change hs) ≡ None
  changed_none n m [] h = refl
  changed_none n m (x ∷ hs) h = let b = none_below m x hs h in either (has_number n x)
      (λ t. rw t (found_tail m (change x) hs (λ k. b.0 (sym (keeps x) ∙ k)) ∙ b.1))
      (λ f. rw f (found_tail m x (changed n change hs) b.0 ∙ changed_none n m hs b.1))

  pub once_changed : (n : ℕ) (hs : List HeaderRecord) → Once hs → Once (changed n change hs)
  once_changed n [] o = tt
  once_changed n (x ∷ hs) o = either (has_number n x)
      (λ t. rw t (rw (keeps x) o.0, o.1))
      (λ f. rw f (changed_none n x.state.number hs o.0, once_changed n hs o.1))

  pub count_changed : (test : HeaderState → Bool) (n : ℕ) (hs : List HeaderRecord) (r : HeaderRecord) → find_header n hs ≡ Some r
      → count_headers test (changed n change hs) + weight (test r.state) ≡ count_headers test hs + weight (test (change r).state)
  count_changed test n [] r h = absurd cc
  count_changed test n (x ∷ hs) r h = either (has_number n x)
      (λ t. let s : Some x ≡ Some r = rw t at h in let e : x ≡ r = cc in rw (t, e) (omega arith))
      (λ f. let g : find_header n hs ≡ Some r = rw f at h in let i = count_changed test n hs r g in rw f (omega (arith, i)))

  pub changed_nothing : (n : ℕ) (hs : List HeaderRecord) → find_header n hs ≡ None → changed n change hs ≡ hs
  changed_nothing n [] h = refl
  changed_nothing n (x ∷ hs) h = let b = none_below n x hs h in rw (ne_eqb x.state.number n b.0) (ap (λ (l : List HeaderRecord). x ∷ l) (changed_nothing n hs b.1))
