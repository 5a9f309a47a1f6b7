-- What a list of messages does to a table.
use Rattle.std.proofs.Common.{◌≡◌, ℕ, suc, ◌+◌, ◌≤◌, Bool, true, false, ltb, ◌⊎◌, List, [], ◌∷◌, ◌++◌, map, length, Some, None, Ok, refl, ap, ◌∙◌, inl, inr, ⊎_elim, arith}
use Rattle.std.proofs.lemmas.Bool.{or_left, or_right, false≢true, cases_Bool, lt-ltb}
use Rattle.std.proofs.lemmas.List.{length-append}
use Rattle.edges.specs.declared.edges.Edge.{Edge}
use Rattle.edges.specs.declared.edges.Change.{Change}
use Rattle.edges.specs.declared.edges.Change.TheVariants.{Add, Remove}
use Rattle.edges.specs.Edges.{edge_of, same, vault_edge}
use Rattle.edge_sets.specs.EdgeSets.{Edges, Ascending, has, insert, delete, perform, ◌∈◌, ◌∉◌}
use Rattle.edge_sets.proofs.Order.{same_refl, same_equal}
use Rattle.edge_sets.proofs.Members.{insert_new, insert_old, insert_cases, insert_else, delete_gone, delete_else, delete_absent, length_insert}
use Rattle.edge_sets.proofs.Ascents.{insert_ascending, perform_ascending, insert_held}
use Rattle.links.specs.Links.{send_answer}
use Rattle.rules.specs.Sending.{performs, taken}
use Rattle.rules.specs.Laws.{latest}

pub performs_append : (a b : List Change) (s : Edges) → performs (a ++ b) s ≡ performs b (performs a s)
performs_append [] b s = refl
performs_append (c ∷ a) b s = performs_append a b (perform c s)

pub performs_ascending : (ms : List Change) (s : Edges) → Ascending s → Ascending (performs ms s)
performs_ascending [] s h = h
performs_ascending (m ∷ ms) s h = performs_ascending ms (perform m s) (perform_ascending m s h)

-- a message that is performed twice
pub perform_twice : (m : Change) (s : Edges) → Ascending s → perform m (perform m s) ≡ perform m s
perform_twice (Add e) s h = insert_held e (insert e s) (insert_ascending e s h) (insert_new e s)
perform_twice (Remove e) s h = delete_absent e (delete e s) (delete_gone e s)

-- whether an edge is there in the end is for the last message about it to say
pub data Last (ms : List Change) (t : Edges) (e : Edge) : Type 0 where
  untouched : latest ms e ≡ None → has (performs ms t) e ≡ has t e → Last ms t e
  adds : latest ms e ≡ Some (Add e) → e ∈ performs ms t → Last ms t e
  removes : latest ms e ≡ Some (Remove e) → e ∉ performs ms t → Last ms t e

pub last : (ms : List Change) (t : Edges) (e : Edge) → Last ms t e
last [] t e = untouched refl refl
last (m ∷ ms) t e = by (last ms (perform m t) e)
  where
    only : (m : Change) (b : Bool) → same (edge_of m) e ≡ b → latest ms e ≡ None → has (performs ms (perform m t)) e ≡ has (perform m t) e → Last (m ∷ ms) t e
    only (Add d) true q p r = adds (rw (p, q) (ap (λ (x : Edge). Some (Add x)) (same_equal d e q))) (r ∙ (rw (same_equal d e q) (insert_new e t)))
    only (Remove d) true q p r = removes (rw (p, q) (ap (λ (x : Edge). Some (Remove x)) (same_equal d e q))) (r ∙ (rw (same_equal d e q) (delete_gone e t)))
    only (Add d) false q p r = untouched (rw (p, q)) (r ∙ insert_else d t e q)
    only (Remove d) false q p r = untouched (rw (p, q)) (r ∙ delete_else d t e q)

    by : Last ms (perform m t) e → Last (m ∷ ms) t e
    by (untouched p q) = only m (same (edge_of m) e) refl p q
    by (adds p q) = adds (rw p) q
    by (removes p q) = removes (rw p) q

-- performing any number of the messages keeps the table within n
abbrev pub Fits : ℕ → List Change → Edges → Type 0
Fits n [] t = length t ≤ n
Fits n (m ∷ ms) t = (length t ≤ n) × Fits n ms (perform m t)

pub fits_now : (n : ℕ) (ms : List Change) (t : Edges) → Fits n ms t → length t ≤ n
fits_now n [] t f = f
fits_now n (m ∷ ms) t f = f.0

pub fits_append : (n : ℕ) (a b : List Change) (t : Edges) → Fits n a t → Fits n b (performs a t) → Fits n (a ++ b) t
fits_append n [] b t f g = g
fits_append n (m ∷ a) b t f g = (f.0, fits_append n a b (perform m t) f.1 g)

pub fits_all : (n : ℕ) (ms : List Change) (t : Edges) → Fits n ms t → length (performs ms t) ≤ n
fits_all n [] t f = f
fits_all n (m ∷ ms) t f = fits_all n ms (perform m t) f.1

-- additions
pub insert_most : (e : Edge) (t : Edges) → Ascending t → length (insert e t) ≤ suc (length t)
insert_most e t h =
    ⊎_elim
    (λ (k : e ∈ t). let q : length (insert e t) ≡ length t = ap length (insert_held e t h k) in omega arith)
    (λ (k : e ∉ t). let q = length_insert e t k in omega arith)
    (cases_Bool (has t e))

pub fits_adds : (n : ℕ) (b t : Edges) → Ascending t → length t + length b ≤ n → Fits n (map Add b) t
fits_adds n [] t a h = omega arith
fits_adds n (e ∷ b) t a h = (omega arith, fits_adds n b (insert e t) (insert_ascending e t a) (let k = insert_most e t a in omega arith))

pub adds_most : (b t : Edges) → Ascending t → length (performs (map Add b) t) ≤ length t + length b
adds_most [] t a = omega arith
adds_most (e ∷ b) t a = let k = insert_most e t a in let j = adds_most b (insert e t) (insert_ascending e t a) in omega arith

pub adds_old : (b t : Edges) (x : Edge) → x ∈ t → x ∈ performs (map Add b) t
adds_old [] t x h = h
adds_old (e ∷ b) t x h = adds_old b (insert e t) x (insert_old e t x h)

pub adds_new : (b t : Edges) (x : Edge) → x ∈ b → x ∈ performs (map Add b) t
adds_new [] t x h = absurd (false≢true h)
adds_new (e ∷ b) t x h = by (same e x) refl (adds_new b (insert e t) x)
  where
    by : (c : Bool) → same e x ≡ c → (x ∈ b → x ∈ performs (map Add b) (insert e t)) → x ∈ performs (map Add b) (insert e t)
    by true q ih = adds_old b (insert e t) x (rw (same_equal e x q) (insert_new x t))
    by false q ih = ih (rw q at h)

pub adds_cases : (b t : Edges) (x : Edge) → x ∈ performs (map Add b) t → (x ∈ b) ⊎ (x ∈ t)
adds_cases [] t x h = inr h
adds_cases (e ∷ b) t x h = ⊎_elim (λ (p : x ∈ b). inl (or_right (same e x) (has b x) p)) (λ (p : x ∈ insert e t). new (insert_cases e t x p)) (adds_cases b (insert e t) x h)
  where
    new : (e ≡ x) ⊎ (x ∈ t) → (x ∈ (e ∷ b)) ⊎ (x ∈ t)
    new (inl p) = inl (or_left (same e x) (has b x) (rw p (same_refl x)))
    new (inr p) = inr p

-- messages about vault edges, and that a link with room takes them
abbrev pub ForVaults : List Change → Type 0
ForVaults [] = Unit {0}
ForVaults (m ∷ ms) = (vault_edge (edge_of m) ≡ true) × ForVaults ms

pub for_vaults_append : (a b : List Change) → ForVaults a → ForVaults b → ForVaults (a ++ b)
for_vaults_append [] b x y = y
for_vaults_append (m ∷ a) b x y = (x.0, for_vaults_append a b x.1 y)

pub for_vaults_adds : (b : Edges) → ((x : Edge) → x ∈ b → vault_edge x ≡ true) → ForVaults (map Add b)
for_vaults_adds [] f = tt
for_vaults_adds (e ∷ b) f =
    (f e (or_left (same e e) (has b e) (same_refl e)), for_vaults_adds b (λ x h. f x (or_right (same e x) (has b x) h)))

pub all_taken : (limit : ℕ) (ws ms : List Change) → ForVaults ms → length ws + length ms ≤ limit → taken limit ws ms ≡ Ok tt
all_taken limit ws [] f h = refl
all_taken limit ws (m ∷ ms) f h =
    let q : ltb (length ws) limit ≡ true = lt-ltb (length ws) limit (omega arith) in
    let l = length-append ws (m ∷ []) in
    let p : send_answer limit ws m ≡ Ok tt = rw (f.0, q) in
    rw (p, taken) (all_taken limit (ws ++ (m ∷ [])) ms f.1 (omega arith))
