-- A graph's book stays the one of its components as these change, and tells their places.
use Rattle.std.proofs.Common.{◌≡◌, ℕ, ◌+◌, ◌-◌, ◌≤◌, true, false, nat_eq, List, [], ◌∷◌, ◌++◌, filter, length, sum_by, set, remove, position, slice_get, Option, Some, None, option_and_then, option_map, refl, sym, ◌∙◌, ap, subst}
use Rattle.std.proofs.lemmas.List.{length-map, map-append}
use Rattle.omx_types.specs.declared.handle.Handle.{Handle}
use Rattle.il_machine.specs.declared.answer.Progress.{Progress}
use Rattle.il_machine.specs.Look.{Look}
use Rattle.il_machine.specs.Sound.{AreRising}
use Rattle.il_machine.specs.Units.{need_of, units_held, is_giving_back, is_waiter, is_before, is_weaker, gives_first, first_waiter, victim}
use Rattle.il_machine.specs.World.{Component, number_of, place_numbered}
use Rattle.machine_laws.proofs.Granting.{best_among, placed_there, victim_from}
use Rattle.resource_book.specs.Account.{Account}
use Rattle.resource_book.specs.Book.{coming_units, free_units, has_room}
use Rattle.resource_book.specs.Rows as book
use Rattle.resource_book.specs.Rows.{blank_row, component_of as component_in, has_place, is_kept, is_returning, units_held as units_in_rows, with_row}
use Rattle.resource_book.specs.declared.row.Row.{Row}
use Rattle.stock_laws.proofs.Lists.{map_set, map_remove}
use Rattle.il_component.specs.Entries.{Entry, component_of}
use Rattle.port_stock.specs.Kept.{StockKept}
use Rattle.graph_core.specs.Booked.{row_for, booked}
use Rattle.graph_core.specs.Entries.{Entries, components_of, kept}
use Rattle.graph_core.specs.Standing.{SoundWorld}
use Rattle.graph_core.proofs.Booked.{held_booked, returning_booked, waiter_booked, victim_booked, number_booked}
use Rattle.graph_core.proofs.Counting.{component_there}
use Rattle.graph_core.proofs.OtherEnd.{numbered_is}
use Rattle.graph_core.proofs.RowsPut.{booked_put, booked_freed, booked_room, booked_pushed, booked_same}

module _ {C : Type 0} where
  -- the component of the place changes, but for its row
  pub kept_rows : (b : Account) (es : List (Entry C)) (i : ℕ) (e d : Entry C) → b.rows ≡ booked (components_of es) → slice_get es i ≡ Some e → row_for (component_of d) ≡ row_for (component_of e)
      → b.rows ≡ booked (components_of (set es i d))
  kept_rows b es i e d is at q =
      is ∙ (sym (booked_same i (components_of es) (component_of e) (component_of d) (component_there es i e at) q) ∙ ap booked (sym (map_set component_of es i d)))

  -- a component of no row comes last
  pub pushed_rows : (b : Account) (es : List (Entry C)) (e : Entry C) → b.rows ≡ booked (components_of es) → is_kept (row_for (component_of e)) ≡ false → b.rows ≡ booked (components_of (es ++ e ∷ []))
  pushed_rows b es e is f = is ∙ (sym (booked_pushed (components_of es) (component_of e) f) ∙ ap booked (sym (map-append component_of es (e ∷ []))))

  -- ---- how many units there are

  pub free_there : (b : Account) (es : List (Entry C)) → b.rows ≡ booked (components_of es) → free_units b ≡ b.units - units_held (components_of es)
  free_there b es is = ap (λ (n : ℕ). b.units - n) (ap units_in_rows is ∙ held_booked (components_of es))

  pub coming_there : (b : Account) (es : List (Entry C)) → b.rows ≡ booked (components_of es)
      → coming_units b ≡ (b.units - units_held (components_of es)) + sum_by need_of (filter is_giving_back (components_of es))
  coming_there b es is =
      ap (λ (n : ℕ). n + units_in_rows (filter is_returning b.rows)) (free_there b es is)
      ∙ ap (λ (n : ℕ). (b.units - units_held (components_of es)) + n) (ap (λ (rows : List Row). units_in_rows (filter is_returning rows)) is ∙ returning_booked (components_of es))

  module _ (progress : C → Progress) where
    rising_there : (g : Entries C) → SoundWorld (kept progress g) → AreRising 0 (components_of g.entries) g.numbered
    rising_there g W = subst (λ (l : Look). AreRising 0 l.components l.numbered) W.stands.looks W.sound.rising

    pub enough_there : (g : Entries C) → SoundWorld (kept progress g) → units_held (components_of g.entries) ≤ g.units
    enough_there g W = subst (λ (l : Look). units_held l.components ≤ l.units) W.stands.looks W.sound.enough

    module _ (g : Entries C) (b : Account) (W : SoundWorld (kept progress g)) (is : b.rows ≡ booked (components_of g.entries)) where
      -- ---- the row of the component at the place is put

      module _ (i : ℕ) (e : Entry C) (at : slice_get g.entries i ≡ Some e) where
        pub entered_room : (d : Entry C) → d.handle ≡ e.handle → length g.entries ≤ 32 → has_room d.handle.generation b ≡ true
        entered_room d h few =
            let cs : List Component = components_of g.entries in
            let most : length cs ≤ 32 = subst (λ (n : ℕ). n ≤ 32) (sym (length-map g.entries component_of)) few in
            let r : has_place e.handle.generation b.rows ≡ true = subst (λ (rows : List Row). has_place e.handle.generation rows ≡ true) (sym is) (booked_room i cs (component_of e) (component_there g.entries i e at) most) in
            subst (λ (x : Handle). has_place x.generation b.rows ≡ true) (sym h) r

        pub entered_rows : (d : Entry C) → d.handle ≡ e.handle → with_row (row_for (component_of d)) b.rows ≡ booked (components_of (set g.entries i d))
        entered_rows d h =
            ap (with_row (row_for (component_of d))) is
            ∙ (booked_put g.numbered i (components_of g.entries) (component_of e) (rising_there g W) (component_there g.entries i e at) (component_of d) (ap (λ (x : Handle). x.generation) h)
            ∙ ap booked (sym (map_set component_of g.entries i d)))

        pub entered_covered : (d : Entry C) → d.handle ≡ e.handle → (st : StockKept) (waits numbered : ℕ)
            → SoundWorld (kept progress (record { entries = set g.entries i d; stock = st; units = b.units; waits = waits; numbered = numbered })) → units_in_rows (with_row (row_for (component_of d)) b.rows) ≤ b.units
        entered_covered d h st waits numbered V =
            subst (λ (n : ℕ). n ≤ b.units) (sym (ap units_in_rows (entered_rows d h) ∙ held_booked (components_of (set g.entries i d))))
            (enough_there (record { entries = set g.entries i d; stock = st; units = b.units; waits = waits; numbered = numbered }) V)

        pub freed_rows : with_row (blank_row e.handle.generation) b.rows ≡ booked (components_of (remove g.entries i))
        freed_rows =
            ap (with_row (blank_row e.handle.generation)) is
            ∙ (booked_freed g.numbered i (components_of g.entries) (component_of e) (rising_there g W) (component_there g.entries i e at) ∙ ap booked (sym (map_remove component_of g.entries i)))

        pub freed_covered : (st : StockKept) (waits numbered : ℕ) → SoundWorld (kept progress (record { entries = remove g.entries i; stock = st; units = b.units; waits = waits; numbered = numbered }))
            → units_in_rows (with_row (blank_row e.handle.generation) b.rows) ≤ b.units
        freed_covered st waits numbered V =
            subst (λ (n : ℕ). n ≤ b.units) (sym (ap units_in_rows freed_rows ∙ held_booked (components_of (remove g.entries i))))
            (enough_there (record { entries = remove g.entries i; stock = st; units = b.units; waits = waits; numbered = numbered }) V)

      -- ---- the component whose number the book tells

      placed : (o : Option Component) → ((c : Component) → o ≡ Some c → (place : ℕ) × (slice_get (components_of g.entries) place ≡ Some c)) → (number : ℕ) → Some number ≡ option_map number_of o
          → option_and_then (slice_get (components_of g.entries)) (position (λ (e : Entry C). nat_eq e.handle.generation number) g.entries) ≡ o
      placed None among number n = absurd cc
      placed (Some c) among number n =
          let m : number ≡ number_of c = cc in
          let a = among c refl in
          let p : position (λ (e : Entry C). nat_eq e.handle.generation number) g.entries ≡ Some a.0 =
          numbered_is number g.entries ∙ (ap (λ (k : ℕ). place_numbered k (components_of g.entries)) m ∙ placed_there g.numbered a.0 (components_of g.entries) c (rising_there g W) a.1) in
          ap (option_and_then (slice_get (components_of g.entries))) p ∙ a.1

      none_of : (o : Option Component) → None ≡ option_map number_of o → None ≡ o
      none_of None n = refl
      none_of (Some c) n = absurd cc

      waiter_number : option_map component_in (book.first_waiter b.rows) ≡ option_map number_of (first_waiter (components_of g.entries))
      waiter_number =
          ap (λ (rows : List Row). option_map component_in (book.first_waiter rows)) is
          ∙ (ap (option_map component_in) (waiter_booked g.numbered (components_of g.entries) (rising_there g W)) ∙ number_booked (first_waiter (components_of g.entries)))

      pub waiter_place : (number : ℕ) → Some number ≡ option_map component_in (book.first_waiter b.rows)
          → option_and_then (slice_get (components_of g.entries)) (position (λ (e : Entry C). nat_eq e.handle.generation number) g.entries) ≡ first_waiter (components_of g.entries)
      waiter_place number n =
          placed (first_waiter (components_of g.entries)) (λ c e. let a = best_among is_waiter is_before (components_of g.entries) c e in (a.place, a.there)) number (n ∙ waiter_number)

      pub no_waiter : None ≡ option_map component_in (book.first_waiter b.rows) → None ≡ first_waiter (components_of g.entries)
      no_waiter n = none_of (first_waiter (components_of g.entries)) (n ∙ waiter_number)

      victim_number : option_map component_in (book.victim b.rows) ≡ option_map number_of (victim (components_of g.entries))
      victim_number =
          ap (λ (rows : List Row). option_map component_in (book.victim rows)) is
          ∙ (ap (option_map component_in) (victim_booked g.numbered (components_of g.entries) (rising_there g W)) ∙ number_booked (victim (components_of g.entries)))

      pub victim_place : (number : ℕ) → Some number ≡ option_map component_in (book.victim b.rows)
          → option_and_then (slice_get (components_of g.entries)) (position (λ (e : Entry C). nat_eq e.handle.generation number) g.entries) ≡ victim (components_of g.entries)
      victim_place number n =
          placed (victim (components_of g.entries))
          (λ c e.
          let v = victim_from (first_waiter (components_of g.entries)) (components_of g.entries) c e in
          let a = best_among (is_weaker v.0) gives_first (components_of g.entries) c v.2 in
          (a.place, a.there))
          number (n ∙ victim_number)

      pub no_victim : None ≡ option_map component_in (book.victim b.rows) → None ≡ victim (components_of g.entries)
      no_victim n = none_of (victim (components_of g.entries)) (n ∙ victim_number)
