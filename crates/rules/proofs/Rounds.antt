-- Going round the vaults: what holds of each, and of each with the messages for it.
use Rattle.std.proofs.Common.{◌≡◌, ℕ, zero, suc, List, [], ◌∷◌, map, Some, subst}
use Rattle.std.specs.List.{slice_get}
use Rattle.edges.specs.declared.edges.Change.{Change}
use Rattle.rules.specs.Installation.{Vault, no_vault, vault_at, update}
use Rattle.rules.specs.Sending.{Each, send, send_each}
use Rattle.privileges.proofs.Declared.{some_equal, some_none}

abbrev pub Every : (Vault → Type 0) → List Vault → Type 0
Every P [] = Unit {0}
Every P (v ∷ vs) = P v × Every P vs

pub every_nth : (P : Vault → Type 0) (vs : List Vault) (i : ℕ) {v : Vault} → Every P vs → slice_get vs i ≡ Some v → P v
every_nth P [] i h q = absurd (some_none q)
every_nth P (x ∷ vs) zero h q = subst P (some_equal q) h.0
every_nth P (x ∷ vs) (suc i) h q = every_nth P vs i h.1 q

-- the vault of a number, be it there or not
pub every_at : (P : Vault → Type 0) → P no_vault → (vs : List Vault) (i : ℕ) → Every P vs → P (vault_at vs i)
every_at P n [] i h = n
every_at P n (v ∷ vs) zero h = h.0
every_at P n (v ∷ vs) (suc i) h = every_at P n vs i h.1

pub every_update : (P : Vault → Type 0) (f : Vault → Vault) → ((v : Vault) → P v → P (f v)) → (i : ℕ) (vs : List Vault) → Every P vs → Every P (update i f vs)
every_update P f k i [] h = tt
every_update P f k zero (v ∷ vs) h = (k v h.0, h.1)
every_update P f k (suc i) (v ∷ vs) h = (h.0, every_update P f k i vs h.1)

pub every_map : {A : Type 0} (f : A → Vault) (P : Vault → Type 0) → ((x : A) → P (f x)) → (xs : List A) → Every P (map f xs)
every_map f P k [] = tt
every_map f P k (x ∷ xs) = (k x, every_map f P k xs)

pub every_to : (P Q : Vault → Type 0) → ((v : Vault) → P v → Q v) → (vs : List Vault) → Every P vs → Every Q vs
every_to P Q f [] h = tt
every_to P Q f (v ∷ vs) h = (f v h.0, every_to P Q f vs h.1)

pub every_both : (P Q : Vault → Type 0) (vs : List Vault) → Every P vs → Every Q vs → Every (λ v. P v × Q v) vs
every_both P Q [] h k = tt
every_both P Q (v ∷ vs) h k = ((h.0, k.0), every_both P Q vs h.1 k.1)

-- from one statement about each vault and its messages to another, with what holds of each vault
pub each_to : (P : Vault → Type 0) (R S : Vault → List Change → Type 0) → ((v : Vault) (ms : List Change) → P v → R v ms → S v ms)
    → (vs : List Vault) (mss : List (List Change)) → Every P vs → Each R vs mss → Each S vs mss
each_to P R S f [] [] h k = tt
each_to P R S f [] (ms ∷ mss) h k = k
each_to P R S f (v ∷ vs) [] h k = k
each_to P R S f (v ∷ vs) (ms ∷ mss) h k = (f v ms h.0 k.0, each_to P R S f vs mss h.1 k.1)

pub each_both : (R S : Vault → List Change → Type 0) (vs : List Vault) (mss : List (List Change)) → Each R vs mss → Each S vs mss → Each (λ v ms. R v ms × S v ms) vs mss
each_both R S [] [] h k = tt
each_both R S [] (ms ∷ mss) h k = h
each_both R S (v ∷ vs) [] h k = h
each_both R S (v ∷ vs) (ms ∷ mss) h k = ((h.0, k.0), each_both R S vs mss h.1 k.1)

-- each vault after its messages were sent
pub each_sent : (P Q : Vault → Type 0) (R : Vault → List Change → Type 0) → ((v : Vault) (ms : List Change) → P v → R v ms → Q (send ms v))
    → (vs : List Vault) (mss : List (List Change)) → Every P vs → Each R vs mss → Every Q (send_each mss vs)
each_sent P Q R f [] [] h k = tt
each_sent P Q R f [] (ms ∷ mss) h k = tt
each_sent P Q R f (v ∷ vs) [] h k = absurd k
each_sent P Q R f (v ∷ vs) (ms ∷ mss) h k = (f v ms h.0 k.0, each_sent P Q R f vs mss h.1 k.1)

-- R holds of each vault and of the one in its place
abbrev pub Alongside : (Vault → Vault → Type 0) → List Vault → List Vault → Type 0
Alongside R [] ys = Unit {0}
Alongside R (v ∷ vs) [] = Unit {0}
Alongside R (v ∷ vs) (y ∷ ys) = R v y × Alongside R vs ys

pub alongside_nth : (R : Vault → Vault → Type 0) (vs ys : List Vault) (i : ℕ) {v y : Vault} → Alongside R vs ys
    → slice_get vs i ≡ Some v → slice_get ys i ≡ Some y → R v y
alongside_nth R [] ys i h p q = absurd (some_none p)
alongside_nth R (x ∷ vs) [] i h p q = absurd (some_none q)
alongside_nth R (x ∷ vs) (z ∷ ys) zero {v} h p q = subst (R v) (some_equal q) (subst (λ (u : Vault). R u z) (some_equal p) h.0)
alongside_nth R (x ∷ vs) (z ∷ ys) (suc i) h p q = alongside_nth R vs ys i h.1 p q

pub alongside_same : (R : Vault → Vault → Type 0) → ((v : Vault) → R v v) → (vs : List Vault) → Alongside R vs vs
alongside_same R k [] = tt
alongside_same R k (v ∷ vs) = (k v, alongside_same R k vs)

pub alongside_update : (R : Vault → Vault → Type 0) (f : Vault → Vault) → ((v : Vault) → R v v) → ((v : Vault) → R v (f v))
    → (i : ℕ) (vs : List Vault) → Alongside R vs (update i f vs)
alongside_update R f k l i [] = tt
alongside_update R f k l zero (v ∷ vs) = (l v, alongside_same R k vs)
alongside_update R f k l (suc i) (v ∷ vs) = (k v, alongside_update R f k l i vs)

pub alongside_sent : (P : Vault → Type 0) (S : Vault → List Change → Type 0) (R : Vault → Vault → Type 0)
    → ((v : Vault) (ms : List Change) → P v → S v ms → R v (send ms v))
    → (vs : List Vault) (mss : List (List Change)) → Every P vs → Each S vs mss → Alongside R vs (send_each mss vs)
alongside_sent P S R f [] [] h k = tt
alongside_sent P S R f [] (ms ∷ mss) h k = tt
alongside_sent P S R f (v ∷ vs) [] h k = absurd k
alongside_sent P S R f (v ∷ vs) (ms ∷ mss) h k = (f v ms h.0 k.0, alongside_sent P S R f vs mss h.1 k.1)
