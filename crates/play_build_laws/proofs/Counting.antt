-- How many headers are in the lists of a port, as one leaves for another port, or is unmade.
use Rattle.std.proofs.Common.{◌≡◌, ◌≢◌, ℕ, ◌+◌, ◌<◌, ◌≤◌, Bool, true, false, List, [], ◌∷◌, length, Some, refl, ◌∙◌, ap, arith}
use Rattle.il_machine.specs.declared.header.HeaderState.{HeaderState}
use Rattle.il_machine.specs.declared.header.Owner.TheVariants as owners
use Rattle.il_machine.specs.declared.header.Queue.{Queue}
use Rattle.il_machine.specs.declared.header.Queue.TheVariants.{Out, Todo, Done}
use Rattle.il_machine.specs.declared.header.Spot.{Spot}
use Rattle.il_machine.specs.declared.port.PortKey.{PortKey}
use Rattle.il_machine.specs.Headers.{Once, count_headers, find_header, in_done, in_todo, is_owned_by, is_state, numbers, put, put_at, same_key, weight, without}
use Rattle.il_machine.specs.Look.{look}
use Rattle.il_machine.specs.World.{HeaderRecord, World}
use Rattle.machine_laws.proofs.Finding.{count_without, either}
use Rattle.machine_laws.proofs.Keys.{key_same}
use Rattle.machine_laws.proofs.Replacing.{IsReplaced, replaced_put}
use Rattle.play_build_laws.specs.Halting.{headers_at}

numbers_many : (test : HeaderState → Bool) (hs : List HeaderRecord) → length (numbers (is_state test) hs) ≡ count_headers test hs
numbers_many test [] = refl
numbers_many test (r ∷ hs) = either (test r.state) (λ t. let i = numbers_many test hs in rw t (omega arith)) (λ f. let i = numbers_many test hs in rw f (omega arith))

pub headers_are : (key : PortKey) (w : World) → headers_at key (look w) ≡ count_headers (in_todo key) w.headers + count_headers (in_done key) w.headers
headers_are key w = let t = numbers_many (in_todo key) w.headers in let d = numbers_many (in_done key) w.headers in omega arith

-- how often a header is in the lists of a port
abbrev listed : PortKey → HeaderState → ℕ
listed key s = weight (in_todo key s) + weight (in_done key s)

-- it is in a list of its owner
listed_some : (key : PortKey) (s : HeaderState) → s.owner ≡ owners.Port key → s.queue ≢ Out → 1 ≤ listed key s
listed_some key s o q = by_queue s.queue refl
  where
    own : is_owned_by key s.owner ≡ true
    own = ap (is_owned_by key) o ∙ key_same key

    by_queue : (x : Queue) → s.queue ≡ x → 1 ≤ listed key s
    by_queue Out e = absurd (q e)
    by_queue Todo e = rw (e, own) (omega arith)
    by_queue Done e = rw (e, own) (omega arith)

-- and in none of another port
listed_none : (key : PortKey) (s : HeaderState) → is_owned_by key s.owner ≡ false → listed key s ≡ 0
listed_none key s f = by_queue s.queue refl
  where
    by_queue : (x : Queue) → s.queue ≡ x → listed key s ≡ 0
    by_queue Out e = rw e refl
    by_queue Todo e = rw (e, f) refl
    by_queue Done e = rw (e, f) refl

pub is_some_there : (key : PortKey) (w : World) (n : ℕ) (r : HeaderRecord) → find_header n w.headers ≡ Some r → r.state.owner ≡ owners.Port key → r.state.queue ≢ Out → 1 ≤ headers_at key (look w)
is_some_there key w n r f o q =
    let h = headers_are key w in
    let l = listed_some key r.state o q in
    let t = count_without (in_todo key) n w.headers r f in
    let d = count_without (in_done key) n w.headers r f in
    omega (arith, h, l, t, d)

-- ---- one leaves

-- The header at the port goes to another one.
module _ (key peer : PortKey) (spot : Spot) (change : HeaderRecord → HeaderRecord) (keeps : (x : HeaderRecord) → (change x).state ≡ x.state) (w : World) (n : ℕ) (r : HeaderRecord) (once : Once w.headers) (f : find_header n w.headers ≡ Some r) where
  abbrev put_there : World
  put_there = record w { headers = put peer spot n change w.headers }

  replaced : IsReplaced n r (put_at peer spot (change r)) w.headers (put peer spot n change w.headers)
  replaced = replaced_put peer spot change (λ x. ap (λ (s : HeaderState). s.number) (keeps x)) n w.headers r once f

  no_longer : (k : PortKey) → same_key peer k ≡ false → listed k (put_at peer spot (change r)).state ≡ 0
  no_longer k a = listed_none k (put_at peer spot (change r)).state a

  pub put_elsewhere : (k : PortKey) → same_key peer k ≡ false → headers_at k (look put_there) ≤ headers_at k (look w)
  put_elsewhere k a =
      let h = headers_are k w in
      let g = headers_are k put_there in
      let z = no_longer k a in
      let t = replaced.counts (in_todo k) in
      let d = replaced.counts (in_done k) in
      omega (arith, h, g, z, t, d)

  pub put_fewer : same_key peer key ≡ false → r.state.owner ≡ owners.Port key → r.state.queue ≢ Out → headers_at key (look put_there) < headers_at key (look w)
  put_fewer a o q =
      let h = headers_are key w in
      let g = headers_are key put_there in
      let z = no_longer key a in
      let l = listed_some key r.state o q in
      let t = replaced.counts (in_todo key) in
      let d = replaced.counts (in_done key) in
      omega (arith, h, g, z, l, t, d)

-- ---- one is unmade

module _ (key : PortKey) (w : World) (n : ℕ) (r : HeaderRecord) (f : find_header n w.headers ≡ Some r) where
  abbrev unmade : World
  unmade = record w { headers = without n w.headers }

  pub unmade_no_more : (k : PortKey) → headers_at k (look unmade) ≤ headers_at k (look w)
  unmade_no_more k =
      let h = headers_are k w in
      let g = headers_are k unmade in
      let t = count_without (in_todo k) n w.headers r f in
      let d = count_without (in_done k) n w.headers r f in
      omega (arith, h, g, t, d)

  pub unmade_fewer : r.state.owner ≡ owners.Port key → r.state.queue ≢ Out → headers_at key (look unmade) < headers_at key (look w)
  unmade_fewer o q =
      let h = headers_are key w in
      let g = headers_are key unmade in
      let l = listed_some key r.state o q in
      let t = count_without (in_todo key) n w.headers r f in
      let d = count_without (in_done key) n w.headers r f in
      omega (arith, h, g, l, t, d)
