-- What is found and counted among the entries, and headers that change where they stand.
use Rattle.std.proofs.Common.{◌≡◌, ℕ, zero, suc, ◌+◌, ◌<◌, Bool, true, false, not, ◌==◌, List, [], ◌∷◌, ◌++◌, length, map, set, get_or, take, drop, position, slice_get, Option, Some, None, is_none, is_some, option_map, MatchOption, IsSome, refl, sym, ◌∙◌, ap, arith, add-one, append-nil, subst}
use Rattle.std.proofs.lemmas.Bool.Decides.{nat_tests}
use Rattle.std.proofs.lemmas.List.{drop_all, length-map, take_all}
use Rattle.il_machine.specs.declared.port.Mark.{Mark}
use Rattle.il_machine.specs.declared.header.HeaderState.{HeaderState}
use Rattle.il_machine.specs.World.{HeaderRecord}
use Rattle.il_machine.specs.Lists.{is_empty}
use Rattle.il_machine.specs.Headers.{changed, find_header, state_of}
use Rattle.il_machine.specs.Due.{marked}
use Rattle.stock_laws.specs.Changes.{cleared_where}
use Rattle.header_core.specs.BufferHeader.{BufferHeader, marked as marked_header}
use Rattle.port_stock.specs.declared.entry.Entry.{Entry}
use Rattle.port_stock.specs.Kept.{has_no_mark, is_waiting, unmarked_of}
use Rattle.port_stock.specs.Entries.{AreOf, Each, HasKey, IsKept, KeepsKeys, entry_cleared, headers_of, load_of_kept, record_of}
use Rattle.port_stock.proofs.Places.{At, Each-at, Each-set, at, is_numbered, nowhere}
use Rattle.port_stock.proofs.Changing.{at_is, is_kept, is_there}

-- ---- look-ups

pub state_nowhere : (n : ℕ) (es : List Entry) → position (is_numbered n) es ≡ None → None ≡ option_map state_of (find_header n (headers_of es))
state_nowhere n es h = rw (nowhere n es h) refl

pub state_there : (n k : ℕ) (es : List Entry) (e : Entry) → position (is_numbered n) es ≡ Some k → e ≡ get_or es k e → Some e.state ≡ option_map state_of (find_header n (headers_of es))
state_there n k es e h g =
    let A = at n k es h in
    let same : e ≡ A.it = g ∙ at_is es k A.it e A.there in
    ap (λ (x : Entry). Some x.state) same ∙ rw A.stands.find refl

-- ---- the first header without a mark gets one

mark_record : (mark : Mark) (state : HeaderState) (o : Option BufferHeader) → IsSome o
    → record_of (record { state = state; kept = option_map (marked_header mark) o }) ≡ marked (Some mark) (record_of (record { state = state; kept = o }))
mark_record mark state None h = absurd cc
mark_record mark state (Some header) h = refl

mark_kept_fits : (mark : Mark) (state : HeaderState) (o : Option BufferHeader) → IsKept (record { state = state; kept = o }) → IsKept (record { state = state; kept = option_map (marked_header mark) o })
mark_kept_fits mark state None K = record { there = K.there; header = tt }
mark_kept_fits mark state (Some header) K = record { there = K.there; header = (K.header.0, record { size = K.header.1.size; memory = K.header.1.memory }) }

pub mark_headers : (n k : ℕ) (mark : Mark) (es : List Entry) (e : Entry) (kept : Option BufferHeader) (A : At n k es) → Each IsKept es → MatchOption (find_header n (headers_of es)) ⊥ (λ r. is_waiting r.state.queue ≡ true) → e ≡ A.it
    → kept ≡ option_map (marked_header mark) e.kept → headers_of (set es k (record { state = e.state; kept = kept })) ≡ changed n (marked (Some mark)) (headers_of es)
mark_headers n k mark es e kept A E h same m =
    let w = is_there (λ r. is_waiting r.state.queue ≡ true) (find_header n (headers_of es)) (record_of A.it) A.stands.find h in
    let some = is_kept A.it (Each-at IsKept es k A.it E A.there) w in
    ap (λ (x : Option BufferHeader). headers_of (set es k (record { state = e.state; kept = x }))) m
    ∙ (ap (λ (x : Entry). headers_of (set es k (record { state = x.state; kept = option_map (marked_header mark) x.kept }))) same
    ∙ A.stands.changed (record { state = A.it.state; kept = option_map (marked_header mark) A.it.kept }) (marked (Some mark)) (mark_record mark A.it.state A.it.kept some))

pub mark_each : (mark : Mark) (k : ℕ) (es : List Entry) (e : Entry) (kept : Option BufferHeader) (it : Entry) → Each IsKept es → slice_get es k ≡ Some it → e ≡ it → kept ≡ option_map (marked_header mark) e.kept
    → Each IsKept (set es k (record { state = e.state; kept = kept }))
mark_each mark k es e kept it E s same m =
    let Q : Entry → Type 0 = λ x. Each IsKept (set es k (record { state = x.state; kept = option_map (marked_header mark) x.kept })) in
    let R : Option BufferHeader → Type 0 = λ x. Each IsKept (set es k (record { state = e.state; kept = x })) in
    subst R (sym m) (subst Q (sym same) (Each-set IsKept es k (record { state = it.state; kept = option_map (marked_header mark) it.kept }) E (mark_kept_fits mark it.state it.kept (Each-at IsKept es k it E s))))

mark_key : (key : ℕ) (mark : Mark) (state : HeaderState) (o : Option BufferHeader) → HasKey key (record { state = state; kept = o }) → HasKey key (record { state = state; kept = option_map (marked_header mark) o })
mark_key key mark state None K = tt
mark_key key mark state (Some header) K = K

pub mark_keys : (mark : Mark) (k : ℕ) (es : List Entry) (e : Entry) (kept : Option BufferHeader) → slice_get es k ≡ Some e → kept ≡ option_map (marked_header mark) e.kept
    → KeepsKeys es (set es k (record { state = e.state; kept = kept }))
mark_keys mark k es e kept at m key E =
    subst (λ (x : Option BufferHeader). AreOf key (set es k (record { state = e.state; kept = x }))) (sym m)
    (Each-set (HasKey key) es k (record { state = e.state; kept = option_map (marked_header mark) e.kept }) E (mark_key key mark e.state e.kept (Each-at (HasKey key) es k e E at)))

-- ---- the first number whose header has no mark

pub unmarked_there : (n k : ℕ) (es : List Entry) (e : Entry) (A : At n k es) → e ≡ A.it → is_none (load_of_kept e.kept).mark ≡ has_no_mark (find_header n (headers_of es))
unmarked_there n k es e A same = ap (λ (x : Entry). is_none (load_of_kept x.kept).mark) same ∙ sym (ap has_no_mark A.stands.find)

pub unmarked_nowhere : (n : ℕ) (es : List Entry) → position (is_numbered n) es ≡ None → false ≡ has_no_mark (find_header n (headers_of es))
unmarked_nowhere n es h = sym (ap has_no_mark (nowhere n es h))

drop_at : (ns : List ℕ) (i n : ℕ) → slice_get ns i ≡ Some n → drop i ns ≡ n ∷ drop (i + 1) ns
drop_at [] i n h = absurd cc
drop_at (m ∷ ns) zero n h = let e : m ≡ n = cc in rw e refl
drop_at (m ∷ ns) (suc i) n h = rw add-one (drop_at ns i n h ∙ rw add-one refl)

-- those from a place on that isn't one of them are those behind it
pub unmarked_on : (hs : List HeaderRecord) (ns : List ℕ) (i n : ℕ) → slice_get ns i ≡ Some n → has_no_mark (find_header n hs) ≡ false → unmarked_of hs ns ≡ unmarked_of hs (drop i ns) → unmarked_of hs ns ≡ unmarked_of hs (drop (i + 1) ns)
unmarked_on hs ns i n h f e =
    let step : unmarked_of hs (n ∷ drop (i + 1) ns) ≡ unmarked_of hs (drop (i + 1) ns) = rw f refl in
    e ∙ (ap (unmarked_of hs) (drop_at ns i n h) ∙ step)

pub unmarked_at : (hs : List HeaderRecord) (ns : List ℕ) (i n : ℕ) → slice_get ns i ≡ Some n → has_no_mark (find_header n hs) ≡ true → unmarked_of hs ns ≡ unmarked_of hs (drop i ns) → Some n ≡ slice_get (unmarked_of hs ns) 0
unmarked_at hs ns i n h t e =
    let front : unmarked_of hs (n ∷ drop (i + 1) ns) ≡ n ∷ unmarked_of hs (drop (i + 1) ns) = rw t refl in
    sym (ap (λ (v : List ℕ). slice_get v 0) (e ∙ (ap (unmarked_of hs) (drop_at ns i n h) ∙ front)))

-- ---- all headers of a list are cleared

pub map_step : {X : Type 0} (f : X → X) (xs : List X) (i : ℕ) (x : X) → i < length xs → x ≡ get_or (map f (take i xs) ++ drop i xs) i x
    → set (map f (take i xs) ++ drop i xs) i (f x) ≡ map f (take (i + 1) xs) ++ drop (i + 1) xs
map_step f [] i x l g = absurd (omega arith)
map_step {X} f (y ∷ xs) zero x l g = ap (λ (v : X). f v ∷ xs) g
map_step {X} f (y ∷ xs) (suc i) x l g = rw add-one (ap (λ (v : List X). f y ∷ v) (rw add-one at (map_step f xs i x (omega arith) g)))

pub loop_step : {X : Type 0} (f : X → X) (xs now : List X) (i : ℕ) (x y : X) → i < length xs → now ≡ map f (take i xs) ++ drop i xs → y ≡ f (get_or now i x) → x ≡ get_or now i x
    → set now i y ≡ map f (take (i + 1) xs) ++ drop (i + 1) xs
loop_step {X} f xs now i x y l n e g =
    let at : x ≡ get_or (map f (take i xs) ++ drop i xs) i x = g ∙ ap (λ (v : List X). get_or v i x) n in
    ap (λ (v : X). set now i v) (e ∙ ap f (sym g)) ∙ (ap (λ (v : List X). set v i (f x)) n ∙ map_step f xs i x l at)

record_cleared : (b : Bool) (state : HeaderState) (kept : Option BufferHeader) → record_of (entry_cleared b (record { state = state; kept = kept })) ≡ cleared_where b (record_of (record { state = state; kept = kept }))
record_cleared true state None = refl
record_cleared true state (Some header) = refl
record_cleared false state kept = refl

pub headers_cleared : (test : HeaderState → Bool) (es : List Entry) → headers_of (map (λ e. entry_cleared (test e.state) e) es) ≡ map (λ r. cleared_where (test r.state) r) (headers_of es)
headers_cleared test [] = refl
headers_cleared test (e ∷ es) = λ i. record_cleared (test e.state) e.state e.kept i ∷ headers_cleared test es i

kept_cleared : (b : Bool) (state : HeaderState) (kept : Option BufferHeader) → IsKept (record { state = state; kept = kept }) → IsKept (entry_cleared b (record { state = state; kept = kept }))
kept_cleared true state None K = record { there = K.there; header = tt }
kept_cleared true state (Some header) K = record { there = K.there; header = (K.header.0, record { size = K.header.1.size; memory = K.header.1.memory }) }
kept_cleared false state kept K = K

pub each_cleared : (test : HeaderState → Bool) (es : List Entry) → Each IsKept es → Each IsKept (map (λ e. entry_cleared (test e.state) e) es)
each_cleared test [] E = tt
each_cleared test (e ∷ es) E = (kept_cleared (test e.state) e.state e.kept E.0, each_cleared test es E.1)

key_cleared : (key : ℕ) (b : Bool) (state : HeaderState) (kept : Option BufferHeader) → HasKey key (record { state = state; kept = kept }) → HasKey key (entry_cleared b (record { state = state; kept = kept }))
key_cleared key true state None K = tt
key_cleared key true state (Some header) K = K
key_cleared key false state kept K = K

pub keys_cleared : (test : HeaderState → Bool) (es : List Entry) → KeepsKeys es (map (λ e. entry_cleared (test e.state) e) es)
keys_cleared test [] key E = tt
keys_cleared test (e ∷ es) key E = (key_cleared key (test e.state) e.state e.kept E.0, keys_cleared test es key E.1)

-- what is written over a whole list stands in its place
pub whole : {X : Type 0} (n : ℕ) (xs ys : List X) → n ≡ length xs → length ys ≡ length xs → take n (ys ++ drop (length ys) xs) ≡ ys
whole {X} n xs ys a b =
    let none : drop (length ys) xs ≡ [] = drop_all (length ys) xs (omega arith) in
    ap (λ (v : List X). take n (ys ++ v)) none ∙ (ap (take n) (append-nil ys) ∙ take_all n ys (omega arith))

-- the entries that were written over are those with every header of the list cleared
pub rewritten : (test : HeaderState → Bool) (n : ℕ) (es us : List Entry) → n ≡ length es → us ≡ map (λ e. entry_cleared (test e.state) e) es → take n (us ++ drop (length us) es) ≡ map (λ e. entry_cleared (test e.state) e) es
rewritten test n es us a u =
    let l : length us ≡ length es = ap length u ∙ simp length-map in
    whole n es us a l ∙ u

pub not_empty : (ns : List ℕ) → not (length ns == 0) ≡ not (is_empty ns)
not_empty [] = refl
not_empty (n ∷ ns) = grind (arith, nat_tests)

pub some_front : (ns : List ℕ) → is_some (slice_get ns 0) ≡ not (is_empty ns)
some_front [] = refl
some_front (n ∷ ns) = refl
