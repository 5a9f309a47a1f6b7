-- The calls of a line, one after another.
use Rattle.std.proofs.Common.{◌≡◌, Bool, true, false, cond, ◌++◌, List, [], ◌∷◌, ℕ, Ok, Err, Result, refl, sym, ap, ◌∙◌, subst}
use Rattle.calls.specs.declared.call.Call.{Call}
use Rattle.calls.specs.declared.call.Call.TheVariants.{Declare, Keep, EndNaming, Seat, Open, Command, Apply, Deliver}
use Rattle.rules.specs.declared.record.CallRecord.{CallRecord}
use Rattle.edges.specs.declared.edges.Edge.{Edge}
use Rattle.edges.specs.declared.edges.Change.{Change}
use Rattle.lines.specs.declared.fault.TextFault.{TextFault}
use Rattle.scripts.specs.declared.fault.ScriptFault.{ScriptFault}
use Rattle.scripts.specs.declared.fault.ScriptFault.TheVariants.{Text}
use Rattle.precedence.specs.Precedence.{Rule}
use Rattle.rules.specs.Installation.{Stage, naming, seating, service}
use Rattle.rules.specs.Outcomes.{Answer, Performs}
use Rattle.rules.specs.Runs.{recorded, Run, ends, calls}
use Rattle.centre.specs.declared.installation.Installation.{Installation}
use Rattle.centre.specs.declared.installation.Installation.TheVariants.{Naming, Seating, Service}
use Rattle.centre.specs.declared.office.Office.{Office}
use Rattle.centre.specs.Offices.{held}
use Rattle.lines.specs.Forms.{form_of, Refused, Said}
use Rattle.centre.specs.Holding.{Held, installation}
use Rattle.centre.specs.Installed.{state, rule_of, held_at, Gives}
use Rattle.centre.specs.Promises.{Does}
use Rattle.centre.proofs.Runs.{run_more, performs_by}
use Rattle.scripts.specs.Answering.{line_answer, is_past_naming, ended, given, RunBy, Answered, unread, carried}

not_past : (c : Call) → ((e : Edge) → c ≡ Seat e → ⊥) → (c ≡ Open → ⊥) → is_past_naming c ≡ false
not_past (Declare c) s o = refl
not_past (Keep v p) s o = refl
not_past EndNaming s o = refl
not_past (Seat e) s o = absurd (s e refl)
not_past Open s o = absurd (o refl)
not_past (Command u c) s o = refl
not_past (Apply v) s o = refl
not_past (Deliver v) s o = refl

-- one call more
ended_more : (t : Stage) (r : CallRecord) → ended t [] ++ (r ∷ []) ≡ ended t (r ∷ [])
ended_more naming r = refl
ended_more seating r = refl
ended_more service r = refl

module _ {B R : Type 0} (over : R → Rule) where
  -- naming ends, where it is not over
  pub naming_ends : (at : Installation B R) (s m : Held R) → at ≡ Naming s
      → Performs (over s.rule) (installation naming s) EndNaming (Ok 0) (installation seating m) → m.rule ≡ s.rule
      → RunBy over at (ended (state at).stage []) (Seating m)
  naming_ends at s m is p r =
      subst (λ (i : Installation B R). RunBy over i (ended (state i).stage []) (Seating m)) (sym is) (record { run = calls p ends; rule = r })

  pub stays : (at : Installation B R) → ((s : Held R) → at ≡ Naming s → ⊥) → RunBy over at (ended (state at).stage []) at
  stays (Naming s) n = absurd (n s refl)
  stays (Seating s) n = record { run = ends; rule = refl }
  stays (Service s) n = record { run = ends; rule = refl }

  -- the call alone
  pub alone : (at next : Installation B R) (c : Call) (a : Answer) → ((e : Edge) → c ≡ Seat e → ⊥) → (c ≡ Open → ⊥) → Gives over at c a next
      → RunBy over at (given (state at).stage c a) next
  alone at next c a s o g =
      subst (λ (b : Bool). RunBy over at (cond b (ended (state at).stage (recorded c a ∷ [])) (recorded c a ∷ [])) next) (sym (not_past c s o))
      (record { run = calls g.performs ends; rule = g.rule })

  -- behind the end of naming
  pub behind : (at mid next : Installation B R) (c : Call) (a : Answer) → RunBy over at (ended (state at).stage []) mid → Gives over mid c a next
      → RunBy over at (ended (state at).stage (recorded c a ∷ [])) next
  behind at mid next c a r g = record {
    run = subst (λ (h : List CallRecord). Run (over (rule_of at)) (state at) h (state next)) (ended_more (state at).stage (recorded c a))
        (run_more r.run (performs_by over r.rule g.performs));
    rule = g.rule ∙ r.rule;
  }

  -- what is declared is read off what is held
  same_declared : (at : Installation B R) → (held_at at).declared ≡ (state at).declared
  same_declared (Naming s) = refl
  same_declared (Seating s) = refl
  same_declared (Service s) = refl

  pub declared_by : (at : Installation B R) (o : Office B R) → held o ≡ held_at at → (D : List Change) → D ≡ o.names → D ≡ (state at).declared
  declared_by at o h D d = d ∙ ap (λ (x : Held R). x.declared) h ∙ same_declared at

  -- a line is read against what is declared
  module _ (at : Installation B R) (D : List Change) (d : D ≡ (state at).declared) (line : List ℕ) where
    pub is_unread : (f : TextFault) → Refused D (form_of line) line f → Answered over at line (Err (Text f)) at
    is_unread f r = unread (subst (λ (E : List Change). Refused E (form_of line) line f) d r)

    pub is_carried : (c : Call) (a : Answer) (next : Installation B R) → Said D (form_of line) line c → RunBy over at (given (state at).stage c a) next
        → (b : Result (Unit {0}) ScriptFault) → b ≡ line_answer a → Answered over at line b next
    is_carried c a next s r b e = subst (λ (b : Result (Unit {0}) ScriptFault). Answered over at line b next) (sym e)
        (carried a (subst (λ (E : List Change). Said E (form_of line) line c) d s) r)

-- in service every call is alone
pub in_service : {B R : Type 0} (over : R → Rule) (h x : Held R) (c : Call) (a : Answer) → Does over service h c a x
    → RunBy {B = B} over (Service h) (given service c a) (Service x)
in_service {B} over h x c a d = by (is_past_naming c)
  where
    by : (b : Bool) → RunBy {B = B} over (Service h) (cond b (recorded c a ∷ []) (recorded c a ∷ [])) (Service x)
    by true = record { run = calls d.performs ends; rule = d.rule }
    by false = record { run = calls d.performs ends; rule = d.rule }
