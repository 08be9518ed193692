-- What each change of the entries makes of the flat list of headers.
use Rattle.std.proofs.Common.{◌≡◌, ℕ, zero, suc, Bool, true, false, ◌&&◌, List, [], ◌∷◌, set, get_or, position, slice_get, Option, Some, None, is_some, IfSome, IsSome, MatchOption, option_map, refl, sym, ◌∙◌, ap, subst}
use Rattle.il_machine.specs.declared.port.PortKey.{PortKey}
use Rattle.il_machine.specs.declared.header.Owner.{Owner}
use Rattle.il_machine.specs.declared.header.Queue.{Queue}
use Rattle.il_machine.specs.declared.header.Queue.TheVariants.{Out, Todo, Done}
use Rattle.il_machine.specs.declared.header.Spot.{Spot}
use Rattle.il_machine.specs.declared.header.Spot.TheVariants.{TodoBack, TodoFront, DoneBack}
use Rattle.il_machine.specs.declared.header.HeaderState.{HeaderState}
use Rattle.il_machine.specs.World.{HeaderRecord}
use Rattle.il_machine.specs.Headers.{changed, find_header, given_to, in_todo, in_done, is_todo, is_done, is_owned_by, is_state, spot_queue, state_at, state_given, state_of}
use Rattle.il_machine.specs.Buffers.{load_in}
use Rattle.stock_laws.proofs.Flat.{find_number}
use Rattle.header_core.specs.BufferHeader.{BufferHeader}
use Rattle.port_stock.specs.declared.entry.Entry.{Entry}
use Rattle.port_stock.specs.Kept.{is_waiting}
use Rattle.port_stock.specs.Conditions.{IsHeaderOf}
use Rattle.port_stock.specs.Entries.{AreOf, Each, HasKey, IsKept, IsTakenAt, KeepsKeys, entry_out, headers_of, load_of_kept, put_record, record_of, record_out}
use Rattle.port_stock.proofs.Places.{At, is_numbered, nowhere, Each-at, Each-set}

-- ---- facts of one option

module _ {A : Type 0} (P : A → Type 0) where
  pub not_there : (o : Option A) → o ≡ None → MatchOption o ⊥ P → ⊥
  not_there None e h = h
  not_there (Some x) e h = cc

  pub is_there : (o : Option A) (x : A) → o ≡ Some x → MatchOption o ⊥ P → P x
  is_there None x e h = absurd h
  is_there (Some y) x e h = let same : y ≡ x = cc in rw (← same) h

  pub if_there : (o : Option A) (x : A) → o ≡ Some x → IfSome o P → P x
  if_there None x e h = absurd cc
  if_there (Some y) x e h = let same : y ≡ x = cc in rw (← same) h

  pub to_there : (o : Option A) (x : A) → o ≡ Some x → P x → IfSome o P
  to_there o x e h = rw e h

pub unreached : (n : ℕ) (es : List Entry) (P : HeaderRecord → Type 0) → position (is_numbered n) es ≡ None → MatchOption (find_header n (headers_of es)) ⊥ P → ⊥
unreached n es P e h = not_there P (find_header n (headers_of es)) (nowhere n es e) h

-- ---- an entry and its header

none_of : {A : Type 0} (o : Option A) (b : Bool) → is_some o ≡ b → b ≡ false → o ≡ None
none_of None b e f = refl
none_of (Some x) b e f = absurd cc

some_of : {A : Type 0} (o : Option A) (b : Bool) → is_some o ≡ b → b ≡ true → IsSome o
some_of None b e f = absurd cc
some_of (Some x) b e f = refl

pub unkept : (e : Entry) → IsKept e → e.state.queue ≡ Out → e.kept ≡ None
unkept e K o = none_of e.kept (is_waiting e.state.queue) K.there (rw o refl)

pub is_kept : (e : Entry) → IsKept e → is_waiting e.state.queue ≡ true → IsSome e.kept
is_kept e K w = some_of e.kept (is_waiting e.state.queue) K.there w

pub at_is : {X : Type 0} (xs : List X) (k : ℕ) (x y : X) → slice_get xs k ≡ Some x → get_or xs k y ≡ x
at_is [] k x y h = absurd cc
at_is (z ∷ xs) zero x y h = cc
at_is (z ∷ xs) (suc k) x y h = at_is xs k x y h

-- ---- a header is put at a spot

pub unkept_at : (es : List Entry) (n k : ℕ) (P : HeaderRecord → Type 0) → At n k es → Each IsKept es → ((r : HeaderRecord) → P r → r.state.queue ≡ Out) → MatchOption (find_header n (headers_of es)) ⊥ P
    → IfSome (slice_get es k) (λ e. e.kept ≡ None)
unkept_at es n k P A E out h =
    let p = out (record_of A.it) (is_there P (find_header n (headers_of es)) (record_of A.it) A.stands.find h) in
    to_there (λ e. e.kept ≡ None) (slice_get es k) A.it A.there (unkept A.it (Each-at IsKept es k A.it E A.there) p)

pub spot_waits : (spot : Spot) → true ≡ is_waiting (spot_queue spot)
spot_waits TodoBack = refl
spot_waits TodoFront = refl
spot_waits DoneBack = refl

-- the entry that is written to is that of the number
pub same_entry : (es : List Entry) (n k : ℕ) (e : Entry) (A : At n k es) → e ≡ get_or es k e → e ≡ A.it
same_entry es n k e A g = g ∙ at_is es k A.it e A.there

pub unkept_entry : (es : List Entry) (n k : ℕ) (P : HeaderRecord → Type 0) (e : Entry) → At n k es → e ≡ get_or es k e → Each IsKept es → ((r : HeaderRecord) → P r → r.state.queue ≡ Out) → MatchOption (find_header n (headers_of es)) ⊥ P
    → e.kept ≡ None
unkept_entry es n k P e A g E out h =
    let p = out (record_of A.it) (is_there P (find_header n (headers_of es)) (record_of A.it) A.stands.find h) in
    ap (λ (x : Entry). x.kept) (same_entry es n k e A g) ∙ unkept A.it (Each-at IsKept es k A.it E A.there) p

pub before_is : (es : List Entry) (n k : ℕ) (s : HeaderState) (A : At n k es) → s ≡ A.it.state → option_map state_of (find_header n (headers_of es)) ≡ Some s
before_is es n k s A h = ap (option_map state_of) A.stands.find ∙ ap (λ (x : HeaderState). Some x) (sym h)

abbrev put_entry : PortKey → Spot → BufferHeader → Entry → Entry
put_entry key spot header e = record { state = state_at key spot e.state; kept = Some header }

pub put_headers : (es : List Entry) (n k : ℕ) (key : PortKey) (spot : Spot) (header : BufferHeader) (e x : Entry) (A : At n k es) → e ≡ A.it → x ≡ record { state = state_at key spot e.state; kept = Some header }
    → headers_of (set es k x) ≡ changed n (put_record key spot (load_in header.held)) (headers_of es)
put_headers es n k key spot header e x A same q =
    let y : x ≡ put_entry key spot header A.it = q ∙ ap (put_entry key spot header) same in
    ap (λ (z : Entry). headers_of (set es k z)) y ∙ A.stands.changed (put_entry key spot header A.it) (put_record key spot (load_in header.held)) refl

pub put_kept : (es : List Entry) (n k : ℕ) (key : PortKey) (spot : Spot) (header : BufferHeader) (e x : Entry) (A : At n k es) → e ≡ A.it → x ≡ record { state = state_at key spot e.state; kept = Some header } → header.held.number ≡ n
    → MatchOption (find_header n (headers_of es)) ⊥ (λ r. (r.state.queue ≡ Out) × IsHeaderOf r.state header) → Each IsKept es → Each IsKept (set es k x)
put_kept es n k key spot header e x A same q num h E =
    let y : x ≡ put_entry key spot header A.it = q ∙ ap (put_entry key spot header) same in
    let O = is_there (λ r. (r.state.queue ≡ Out) × IsHeaderOf r.state header) (find_header n (headers_of es)) (record_of A.it) A.stands.find h in
    let there : A.it.state.number ≡ n = find_number n (headers_of es) (record_of A.it) A.stands.find in
    let K : IsKept (put_entry key spot header A.it) = record { there = spot_waits spot; header = (num ∙ sym there, record { size = O.1.size; memory = O.1.memory }) } in
    let Q : Entry → Type 0 = λ z. Each IsKept (set es k z) in
    subst Q (sym y) (Each-set IsKept es k (put_entry key spot header A.it) E K)

pub put_keys : (es : List Entry) (k : ℕ) (key : PortKey) (spot : Spot) (header : BufferHeader) (e x : Entry) → x ≡ record { state = state_at key spot e.state; kept = Some header } → AreOf header.key es → AreOf header.key (set es k x)
put_keys es k key spot header e x q E =
    let Q : Entry → Type 0 = λ z. AreOf header.key (set es k z) in
    subst Q (sym q) (Each-set (HasKey header.key) es k (put_entry key spot header e) E refl)

-- ---- a header gets an owner

pub give_headers : (es : List Entry) (n k : ℕ) (owner : Owner) (e : Entry) → At n k es → e ≡ get_or es k e → MatchOption (find_header n (headers_of es)) ⊥ (λ r. r.state.queue ≡ Out)
    → headers_of (set es k (record { state = record e.state { owner = owner }; kept = e.kept })) ≡ changed n (given_to owner) (headers_of es)
give_headers es n k owner e A g h =
    let out : A.it.state.queue ≡ Out = is_there (λ r. r.state.queue ≡ Out) (find_header n (headers_of es)) (record_of A.it) A.stands.find h in
    let same : e ≡ A.it = g ∙ at_is es k A.it e A.there in
    let state : record A.it.state { owner = owner } ≡ state_given owner A.it.state = λ i. record A.it.state { owner = owner; queue = out i } in
    ap (λ (x : Entry). headers_of (set es k (record { state = record x.state { owner = owner }; kept = x.kept }))) same
    ∙ A.stands.changed (record { state = record A.it.state { owner = owner }; kept = A.it.kept }) (given_to owner) (ap (λ (x : HeaderState). record { state = x; load = load_of_kept A.it.kept }) state)

-- ---- the front of a list leaves it

and_left : (a b : Bool) → (a && b) ≡ true → a ≡ true
and_left true b e = refl
and_left false b e = absurd cc

queue_waits_todo : (p : Queue) → is_todo p ≡ true → is_waiting p ≡ true
queue_waits_todo Out e = absurd cc
queue_waits_todo Todo e = refl
queue_waits_todo Done e = absurd cc

queue_waits_done : (p : Queue) → is_done p ≡ true → is_waiting p ≡ true
queue_waits_done Out e = absurd cc
queue_waits_done Todo e = absurd cc
queue_waits_done Done e = refl

pub todo_waits : (key : PortKey) (r : HeaderRecord) → is_state (in_todo key) r ≡ true → is_waiting r.state.queue ≡ true
todo_waits key r h = queue_waits_todo r.state.queue (and_left (is_todo r.state.queue) (is_owned_by key r.state.owner) h)

pub done_waits : (key : PortKey) (r : HeaderRecord) → is_state (in_done key) r ≡ true → is_waiting r.state.queue ≡ true
done_waits key r h = queue_waits_done r.state.queue (and_left (is_done r.state.queue) (is_owned_by key r.state.owner) h)

pub waits_kept : (es : List Entry) (n k : ℕ) → At n k es → Each IsKept es → MatchOption (find_header n (headers_of es)) ⊥ (λ r. is_waiting r.state.queue ≡ true) → IfSome (slice_get es k) (λ e. IsSome e.kept)
waits_kept es n k A E h =
    let w = is_there (λ r. is_waiting r.state.queue ≡ true) (find_header n (headers_of es)) (record_of A.it) A.stands.find h in
    to_there (λ e. IsSome e.kept) (slice_get es k) A.it A.there (is_kept A.it (Each-at IsKept es k A.it E A.there) w)

-- how the header of an entry leaves
pub record Leaves (es vs : List Entry) (k : ℕ) (it : Entry) (header : BufferHeader) : Type 0 where
  pub was_kept : it.kept ≡ Some header
  pub items : vs ≡ set es k (entry_out it)
  pub number : header.held.number ≡ it.state.number
  pub fits : IsHeaderOf it.state header

pub leaves : (es vs : List Entry) (k : ℕ) (it : Entry) (header : BufferHeader) → slice_get es k ≡ Some it → Each IsKept es → IfSome (slice_get es k) (λ e. e.kept ≡ Some header)
    → IfSome (slice_get es k) (λ e. vs ≡ set es k (entry_out e)) → Leaves es vs k it header
leaves es vs k it header s E h i =
    let kept = if_there (λ e. e.kept ≡ Some header) (slice_get es k) it s h in
    let K = Each-at IsKept es k it E s in
    let P : BufferHeader → Type 0 = λ header. (header.held.number ≡ it.state.number) × IsHeaderOf it.state header in
    let Q : Option BufferHeader → Type 0 = λ o. MatchOption o (Unit {0}) P in
    let fits : P header = subst Q kept K.header in
    record { was_kept = kept; items = if_there (λ e. vs ≡ set es k (entry_out e)) (slice_get es k) it s i; number = fits.0; fits = fits.1 }

pub taken_at : (es vs : List Entry) (n k : ℕ) (header : BufferHeader) (A : At n k es) → Leaves es vs k A.it header → IsTakenAt n header (headers_of es) (headers_of vs)
taken_at es vs n k header A L =
    let load : load_of_kept A.it.kept ≡ load_in header.held = ap load_of_kept L.was_kept in
    let num : A.it.state.number ≡ n = find_number n (headers_of es) (record_of A.it) A.stands.find in
    record {
      numbered = L.number ∙ num;
      was = rw A.stands.find (load, L.fits);
      after = ap headers_of L.items ∙ A.stands.changed (entry_out A.it) record_out refl;
    }

pub leaves_kept : (es vs : List Entry) (k : ℕ) (it : Entry) (header : BufferHeader) → Each IsKept es → Leaves es vs k it header → Each IsKept vs
leaves_kept es vs k it header E L =
    let Q : List Entry → Type 0 = Each IsKept in
    subst Q (sym L.items) (Each-set IsKept es k (entry_out it) E (record { there = refl; header = tt }))

pub leaves_keys : (es vs : List Entry) (k : ℕ) (it : Entry) (header : BufferHeader) → Leaves es vs k it header → KeepsKeys es vs
leaves_keys es vs k it header L key E = subst (AreOf key) (sym L.items) (Each-set (HasKey key) es k (entry_out it) E tt)

pub leaves_own : (es vs : List Entry) (k : ℕ) (it : Entry) (header : BufferHeader) → slice_get es k ≡ Some it → Leaves es vs k it header → (key : ℕ) → AreOf key es → header.key ≡ key
leaves_own es vs k it header at L key E =
    let P : Option BufferHeader → Type 0 = λ o. MatchOption o (Unit {0}) (λ header. header.key ≡ key) in
    subst P L.was_kept (Each-at (HasKey key) es k it E at)
