-- What is kept of headers changes, in each world. A header that isn't in a notice is another than those in queued notes.
use Rattle.std.proofs.Common.{◌≡◌, ◌≢◌, ℕ, true, false, List, Option, Some, None, MatchOption, All, option_map, slice_index_or, refl, sym, ◌∙◌, ap, subst}
use Rattle.il_machine.specs.World.{HeaderRecord, Load, World}
use Rattle.il_machine.specs.Headers.{Seen, seen, find_header, is_notice, state_of}
use Rattle.il_machine.specs.Look.{Look}
use Rattle.il_machine.specs.Stock.{Stocked, StandsFor}
use Rattle.il_machine.specs.Buffers.{held}
use Rattle.il_machine.specs.Whole.{Kept, Noticed, IsNoticed}
use Rattle.stock_laws.specs.Bare.{StandsBare, StepsBare}

-- what is kept, with another stock
abbrev pub with_stock : Stocked → Kept → Kept
with_stock s k = record k { looks = record k.looks { key = s.key; headers = s.headers; made = s.next }; loads = s.loads }

-- the part of it that is the stock's
pub record IsStock (s : Stocked) (k : Kept) : Type 0 where
  pub headers : k.looks.headers ≡ s.headers
  pub made : k.looks.made ≡ s.next
  pub loads : k.loads ≡ s.loads

pub stands_for : (s : Stocked) (k : Kept) (w : World) → IsStock s k → StandsBare k w → StandsFor s w.headers
stands_for s k w I S = record {
  looks = ap (λ (l : Look). l.headers) S.looks ∙ I.headers;
  loads = λ n load h. S.loads n load (ap (λ (f : ℕ → Option Load). f n) I.loads ∙ h);
  once = S.once;
}

-- all but the header of the number are as before
abbrev pub Elsewhere : ℕ → List HeaderRecord → List HeaderRecord → Type 0
Elsewhere n hs ks = (m : ℕ) → m ≢ n → find_header m ks ≡ find_header m hs

-- there is no header of the number that is in a notice
abbrev pub IsUnnoticed : ℕ → List HeaderRecord → Type 0
IsUnnoticed n hs = MatchOption (find_header n hs) (Unit {0}) (λ r. is_notice r.state.owner ≡ false)

-- the headers in queued notes are as before
abbrev pub KeepsNoticed : World → List HeaderRecord → Type 0
KeepsNoticed w ks = (h : Noticed) → IsNoticed w h → find_header h.held.number ks ≡ find_header h.held.number w.headers

clash : (o : Option HeaderRecord) (h : Noticed) → MatchOption o (Unit {0}) (λ r. is_notice r.state.owner ≡ false) → MatchOption o ⊥ (λ r. (held r ≡ h.held) × (is_notice r.state.owner ≡ true) × (r.state.client_memory ≡ h.client_memory)) → ⊥
clash None h u n = n
clash (Some r) h u n = let x = n.1 in absurd cc

differs : (n : ℕ) (w : World) (h : Noticed) → IsUnnoticed n w.headers → IsNoticed w h → h.held.number ≢ n
differs n w h U N e = clash (find_header n w.headers) h U (subst (λ (m : ℕ). MatchOption (find_header m w.headers) ⊥ (λ r. (held r ≡ h.held) × (is_notice r.state.owner ≡ true) × (r.state.client_memory ≡ h.client_memory))) e N.1)

pub keeps_noticed : (n : ℕ) (w : World) (ks : List HeaderRecord) → IsUnnoticed n w.headers → Elsewhere n w.headers ks → KeepsNoticed w ks
keeps_noticed n w ks U E h N = E h.held.number (differs n w h U N)

abbrev pub with_headers : List HeaderRecord → ℕ → World → World
with_headers hs made w = record w { headers = hs; made = made }

pub lift_stock : (k : Kept) (t : Stocked) (f : World → List HeaderRecord) → t.key ≡ k.looks.key
    → ((w : World) → StandsBare k w → StandsFor t (f w))
    → ((w : World) → StandsBare k w → All (λ h. find_header h.held.number (f w) ≡ find_header h.held.number w.headers) k.noticed)
    → StepsBare k (with_stock t k) (λ w v. v ≡ with_headers (f w) t.next w)
lift_stock k t f key law kept = λ w S.
    let T = law w S in (
      with_headers (f w) t.next w,
      record {
        looks = ap (λ (l : Look). record l { headers = seen (f w); made = t.next }) S.looks ∙ (λ j. record k.looks { key = sym key j; headers = T.looks j; made = t.next });
        loads = T.loads;
        noticed = λ i d b. rw (kept w S i d b) (S.noticed i d b);
        progress = S.progress;
        streams = S.streams;
        once = T.once;
        given = S.given;
      },
      refl,
    )

-- the stock's header of the number isn't in a notice
abbrev pub IsFree : ℕ → Stocked → Type 0
IsFree n s = MatchOption (s.headers.header n) (Unit {0}) (λ h. is_notice h.owner ≡ false)

unnoticed : (o : Option HeaderRecord) → MatchOption (option_map state_of o) (Unit {0}) (λ h. is_notice h.owner ≡ false) → MatchOption o (Unit {0}) (λ r. is_notice r.state.owner ≡ false)
unnoticed None h = tt
unnoticed (Some r) h = h

-- one header of the stock changes, in each world
pub lift_one : (k : Kept) (s t : Stocked) (n : ℕ) (f : List HeaderRecord → List HeaderRecord) → IsStock s k → t.key ≡ k.looks.key → IsFree n s
    → ((hs : List HeaderRecord) → StandsFor s hs → StandsFor t (f hs))
    → ((hs : List HeaderRecord) → StandsFor s hs → Elsewhere n hs (f hs))
    → StepsBare k (with_stock t k) (λ w v. v ≡ with_headers (f w.headers) t.next w)
lift_one k s t n f I key free law apart = lift_stock k t (λ w. f w.headers) key
    (λ w S. law w.headers (stands_for s k w I S))
    (λ w S.
    let P = stands_for s k w I S in
    let e : option_map state_of (find_header n w.headers) ≡ s.headers.header n = ap (λ (h : Seen). h.header n) P.looks in
    let u : MatchOption (option_map state_of (find_header n w.headers)) (Unit {0}) (λ h. is_notice h.owner ≡ false) = rw e free in
    λ i d b. keeps_noticed n w (f w.headers) (unnoticed (find_header n w.headers) u) (apart w.headers P) (slice_index_or k.noticed i d) (S.noticed i d b))

-- a header goes to another owner than the notice that had it, in each world: the queued notes have it no longer
pub lift_taken : (k : Kept) (s t : Stocked) (n : ℕ) (f : List HeaderRecord → List HeaderRecord) → IsStock s k → t.key ≡ k.looks.key → All (λ h. h.held.number ≢ n) k.noticed
    → ((hs : List HeaderRecord) → StandsFor s hs → StandsFor t (f hs))
    → ((hs : List HeaderRecord) → StandsFor s hs → Elsewhere n hs (f hs))
    → StepsBare k (with_stock t k) (λ w v. v ≡ with_headers (f w.headers) t.next w)
lift_taken k s t n f I key others law apart = lift_stock k t (λ w. f w.headers) key
    (λ w S. law w.headers (stands_for s k w I S))
    (λ w S. λ i d b. apart w.headers (stands_for s k w I S) _ (others i d b))
