-- Looking for the lowest vault that is short of room: those below v have been asked.
use Rattle.std.proofs.Common.{◌≡◌, ℕ, suc, ◌+◌, ◌-◌, ◌<◌, ◌≤◌, Bool, true, false, Some, None, Err, Option, Result, sym, refl, ap, ◌∙◌, subst, arith}
use Rattle.rules.specs.declared.fault.CentreFault.{CentreFault}
use Rattle.rules.specs.declared.fault.CentreFault.TheVariants.{StoreRoom}
use Rattle.centre.specs.Room.{first_short, earliest, room_by}

-- what was found, or what is still to come
abbrev pub found_or : Option ℕ → Option ℕ → Option ℕ
found_or (Some k) o = Some k
found_or None o = o

-- one step of the definition, where its test is answered by b
step : (fits : ℕ → Bool) (v n : ℕ) → v < n → first_short fits v (n - v) ≡ first_short fits v (suc (n - suc v))
step fits v n l = let e : n - v ≡ suc (n - suc v) = omega arith in ap (first_short fits v) e

here : (fits : ℕ → Bool) (v n : ℕ) → v < n → fits v ≡ false → first_short fits v (n - v) ≡ Some v
here fits v n l q = step fits v n l ∙ rw (q, first_short) refl

on : (fits : ℕ → Bool) (v n : ℕ) → v < n → fits v ≡ true → first_short fits v (n - v) ≡ first_short fits (suc v) (n - suc v)
on fits v n l q = step fits v n l ∙ rw (q, first_short) refl

over : (fits : ℕ → Bool) (v n : ℕ) → n ≤ v → first_short fits v (n - v) ≡ None
over fits v n l = let e : n - v ≡ 0 = omega arith in ap (first_short fits v) e

-- the stores below v have room; of the links the lowest that is short was found, or is still to come
pub record Asked (stores links : ℕ → Bool) (n v : ℕ) (found : Option ℕ) : Type 0 where
  pub store : first_short stores 0 n ≡ first_short stores v (n - v)
  pub link : first_short links 0 n ≡ found_or found (first_short links v (n - v))

module _ (stores links : ℕ → Bool) (n : ℕ) where
  pub asked_none : Asked stores links n 0 None
  asked_none = let e : n ≡ n - 0 = omega arith in record { store = ap (first_short stores 0) e; link = ap (first_short links 0) e }

  module _ (v : ℕ) (found : Option ℕ) (a : Asked stores links n v found) where
    module _ (l : v < n) where
      pub store_short : stores v ≡ false → Err (StoreRoom v) ≡ room_by (first_short stores 0 n) (first_short links 0 n)
      store_short q = ap (λ (o : Option ℕ). room_by o (first_short links 0 n)) (sym (a.store ∙ here stores v n l q))

      pub asked_more : stores v ≡ true → Asked stores links n (v + 1) (earliest found v (links v))
      asked_more s =
          let e : suc v ≡ v + 1 = omega arith in
          subst (λ (m : ℕ). Asked stores links n m (earliest found v (links v))) e
          (record { store = a.store ∙ on stores v n l s; link = a.link ∙ by found (links v) refl })
        where
          by : (o : Option ℕ) (b : Bool) → links v ≡ b → found_or o (first_short links v (n - v)) ≡ found_or (earliest o v b) (first_short links (suc v) (n - suc v))
          by (Some k) b q = refl
          by None true q = on links v n l q
          by None false q = here links v n l q

    pub all_asked : n ≤ v → (r : Result (Unit {0}) CentreFault) → r ≡ room_by None found → r ≡ room_by (first_short stores 0 n) (first_short links 0 n)
    all_asked l r q =
        q
        ∙ ap (λ (o : Option ℕ). room_by o found) (sym (a.store ∙ over stores v n l))
        ∙ ap (room_by (first_short stores 0 n)) (sym (a.link ∙ ap (found_or found) (over links v n l) ∙ same found))
      where
        same : (o : Option ℕ) → found_or o None ≡ o
        same (Some k) = refl
        same None = refl

pub ruleset shorts = (asked_none, store_short, asked_more, all_asked)
