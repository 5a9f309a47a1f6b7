-- Writing an image and reading it undo each other.
use Rattle.std.proofs.Common.{◌≡◌, ℕ, suc, ◌+◌, ◌-◌, ◌*◌, ◌/◌, ◌%◌, ◌<◌, Bool, true, ltb, List, [], ◌∷◌, length, get_or, drop, sym, refl, ap, ◌∙◌, arith}
use Rattle.std.proofs.lemmas.Bool.{eq-eqb, eqb-true, and_parts, and_from, lt-ltb, ltb-true, true≢false}
use Rattle.edge_sets.specs.EdgeSets.{Table}
use Rattle.image_format.specs.declared.runs.Run.{Run}
use Rattle.image_format.specs.Runs.{run, edges_in, runs, all_fit, front}
use Rattle.image_format.specs.Images.{bytes, image, word_at, runs_in, taken, image_edges, counted, accepted, all_bytes, Judged, ImagesReadBack, AcceptedWasWritten, ImagesStand}
use Rattle.image_format.proofs.Fits.{edges_runs, runs_fit, runs_edges, edges_table, front_fits, front_all}

runs_bytes : (rs : List Run) → runs_in (bytes rs) ≡ rs
runs_bytes [] = refl
runs_bytes (r ∷ rs) =
    let a : r.first / 256 * 256 + r.first % 256 ≡ r.first = omega arith in
    let b : r.count / 256 * 256 + r.count % 256 ≡ r.count = omega arith in
    let t : runs_in (bytes rs) ≡ rs = runs_bytes rs in
    let e : run (r.first / 256 * 256 + r.first % 256) (r.count / 256 * 256 + r.count % 256) ∷ runs_in (bytes rs) ≡ run r.first r.count ∷ rs = cc in e

pub length_bytes : (rs : List Run) → length (bytes rs) ≡ 4 * length rs
length_bytes [] = refl
length_bytes (r ∷ rs) = let t : length (bytes rs) ≡ 4 * length rs = length_bytes rs in omega arith

pub length_runs_in : (s : List ℕ) (n : ℕ) → length s ≡ 4 * n → length (runs_in s) ≡ n
length_runs_in [] n h = omega arith
length_runs_in (x ∷ []) n h = omega arith
length_runs_in (x ∷ y ∷ []) n h = omega arith
length_runs_in (x ∷ y ∷ z ∷ []) n h = omega arith
length_runs_in (x ∷ y ∷ z ∷ v ∷ s) n h = omega (arith, length_runs_in s (n - 1) (omega arith))

bytes_runs : (s : List ℕ) (n : ℕ) → all_bytes s ≡ true → length s ≡ 4 * n → bytes (runs_in s) ≡ s
bytes_runs [] n b h = refl
bytes_runs (x ∷ []) n b h = absurd (omega arith)
bytes_runs (x ∷ y ∷ []) n b h = absurd (omega arith)
bytes_runs (x ∷ y ∷ z ∷ []) n b h = absurd (omega arith)
bytes_runs (x ∷ y ∷ z ∷ v ∷ s) n b h =
    let p = and_parts (ltb y 256) (all_bytes (z ∷ v ∷ s)) (and_parts (ltb x 256) (all_bytes (y ∷ z ∷ v ∷ s)) b).1 in
    let q = and_parts (ltb v 256) (all_bytes s) (and_parts (ltb z 256) (all_bytes (v ∷ s)) p.1).1 in
    let l : y < 256 = ltb-true _ _ p.0 in
    let m : v < 256 = ltb-true _ _ q.0 in
    let e₁ : (x * 256 + y) / 256 ≡ x = omega arith in
    let e₂ : (x * 256 + y) % 256 ≡ y = omega arith in
    let e₃ : (z * 256 + v) / 256 ≡ z = omega arith in
    let e₄ : (z * 256 + v) % 256 ≡ v = omega arith in
    rw (e₁, e₂, e₃, e₄) (ap (λ (t : List ℕ). x ∷ y ∷ z ∷ v ∷ t) (bytes_runs s (n - 1) q.1 (omega arith)))

-- what was written is accepted and holds the same set
read_back : ImagesReadBack
read_back s t =
    let rs = runs s in
    let back = runs_bytes rs in
    let fit = runs_fit s t in
    let count = eq-eqb (length (image s)) (2 + 4 * word_at (image s) 0) (omega (arith, length_bytes rs)) in
    (and_from _ _ count (ap (all_fit 0 512) back ∙ fit), ap (λ (ts : List Run). edges_in (front 0 512 ts)) back ∙ ap edges_in (front_all 0 512 rs fit) ∙ edges_runs s t.vault)

-- any bytes hold a table
pub held_table : (bs : List ℕ) → Table (image_edges bs)
held_table bs = edges_table (taken bs) (front_fits 0 512 (runs_in (drop 2 bs)))

accepted_long : (bs : List ℕ) → accepted bs ≡ true → length bs ≡ 2 + 4 * word_at bs 0
accepted_long bs h = eqb-true _ _ (and_parts (counted bs) (all_fit 0 512 (runs_in (drop 2 bs))) h).0

-- what is accepted would be written so
was_written : AcceptedWasWritten
was_written [] b h = absurd (omega (arith, accepted_long [] h))
was_written (x ∷ []) b h = absurd (omega (arith, accepted_long (x ∷ []) h))
was_written (x ∷ y ∷ s) b h =
    let bs = x ∷ y ∷ s in
    let p = and_parts (counted bs) (all_fit 0 512 (runs_in s)) h in
    let long : length s ≡ 4 * (x * 256 + y) = omega (arith, accepted_long bs h) in
    let b₂ = and_parts (ltb y 256) (all_bytes s) (and_parts (ltb x 256) (all_bytes (y ∷ s)) b).1 in
    let small : y < 256 = ltb-true _ _ b₂.0 in
    let back = bytes_runs s (x * 256 + y) b₂.1 long in
    let count = length_runs_in s (x * 256 + y) long in
    let is : runs (image_edges bs) ≡ runs_in s = ap (λ (ts : List Run). runs (edges_in ts)) (front_all 0 512 (runs_in s) p.1) ∙ runs_edges 0 512 (runs_in s) p.1 in
    let high : length (runs (image_edges bs)) / 256 ≡ x = ap (λ (ts : List Run). length ts / 256) is ∙ omega arith in
    let low : length (runs (image_edges bs)) % 256 ≡ y = ap (λ (ts : List Run). length ts % 256) is ∙ omega arith in
    let rest : bytes (runs (image_edges bs)) ≡ s = ap bytes is ∙ back in
    let all : (length (runs (image_edges bs)) / 256) ∷ (length (runs (image_edges bs)) % 256) ∷ bytes (runs (image_edges bs)) ≡ x ∷ y ∷ s = cc in
    record { written = sym all; table = held_table bs }

pub images_stand : ImagesStand
images_stand = (read_back, was_written, held_table)

-- what the test means for bytes

pub all_small : (bs : List ℕ) → ((i : ℕ) → get_or bs i 0 < 256) → all_bytes bs ≡ true
all_small [] h = refl
all_small (b ∷ bs) h = and_from _ _ (lt-ltb b 256 (h 0)) (all_small bs (λ i. h (suc i)))

pub judged : (bs : List ℕ) → ((i : ℕ) → get_or bs i 0 < 256) → (r : Bool) → r ≡ accepted bs → Judged bs r
judged bs small r e = record {
  test = e;
  image = λ t. was_written bs (all_small bs small) (sym e ∙ t);
  none = λ f s t is. true≢false (sym (ap accepted is ∙ (read_back s t).0) ∙ sym e ∙ f);
}
