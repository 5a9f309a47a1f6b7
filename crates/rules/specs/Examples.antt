-- Worked examples: installations, the calls that set them up, and what comes of some calls after them.
use Rattle.std.specs.Prelude.{◌≡◌, ℕ, zero, suc, ◌+◌, List, [], ◌∷◌, ◌++◌, map, length, Ok, Err}
use Rattle.edges.specs.declared.edges.Change.{Change}
use Rattle.edges.specs.declared.edges.Change.TheVariants.{Add, Remove}
use Rattle.edges.specs.Edges.{edge}
use Rattle.rules.specs.declared.fault.CentreFault.TheVariants.{NoUser, NoEdge, Unauthorised, PolicyFull, StoreRoom, LinkRoom, TooDeep, NamesFull, NoVault, NothingWaiting, WrongStage}
use Rattle.calls.specs.declared.call.Call.{Call}
use Rattle.calls.specs.declared.call.Call.TheVariants.{Declare, Keep, EndNaming, Seat, Open, Command, Apply, Deliver}
use Rattle.rules.specs.declared.record.CallRecord.{CallRecord}
use Rattle.edge_sets.specs.EdgeSets.{Edges}
use Rattle.precedence.specs.Precedence.{Rule, plain_rule, full_rule}
use Rattle.rules.specs.Installation.{Vault, Installation, begin, vault_at}
use Rattle.rules.specs.Outcomes.{Answer, Outcome, outcome}
use Rattle.rules.specs.Runs.{records, played}

-- One vault

-- 256 is +(u2,r0), 257 is +(r2,256), 258 is +(u2,r1), 259 is -(r1,p0); vault 0 keeps p0
abbrev pub naming_calls : List Call
naming_calls =
    Declare (Add (edge 2 64)) ∷ Declare (Add (edge 66 256)) ∷ Declare (Add (edge 2 65)) ∷ Declare (Remove (edge 65 128)) ∷ Keep 0 128 ∷ EndNaming ∷ []

abbrev pub seats : List Call
seats =
    Seat (edge 65 128) ∷ Seat (edge 1 66) ∷ Seat (edge 66 256) ∷ Seat (edge 0 67) ∷ Seat (edge 67 257) ∷ Seat (edge 67 259) ∷ []

-- with r1 below r0, and without
abbrev pub chained : List Call
chained = naming_calls ++ (Seat (edge 64 65) ∷ seats)

abbrev pub opened : List Call
opened = chained ++ (Open ∷ [])

abbrev pub opened_unchained : List Call
opened_unchained = naming_calls ++ (seats ++ (Open ∷ []))

-- the vault's limits: of its link, of its store
abbrev pub start : ℕ → ℕ → Installation
start link store = begin (record { link = link; store = store } ∷ [])

-- what is seen of a call: its answer, what waits at a vault, and how many edges that vault is told of
pub record Seen : Type 0 where
  pub answer : Answer
  pub waiting : List Change
  pub told : ℕ

abbrev pub seen : Answer → List Change → ℕ → Seen
seen a ms n = record { answer = a; waiting = ms; told = n }

abbrev pub seen_of : ℕ → Outcome → Seen
seen_of i o = let v : Vault = vault_at o.then.vaults i in seen o.answer v.site.waiting (length v.told)

-- a call after others, from the start with these limits
unfoldable pub shown : Rule → ℕ → ℕ → List Call → Call → Seen
shown rule link store cs c = seen_of 0 (outcome rule (played rule (start link store) cs) c)

unfoldable pub answers : Rule → ℕ → ℕ → List Call → List Answer
answers rule link store cs = map (λ (r : CallRecord). r.answer) (records rule (start link store) cs)

-- the table of vault 0 after some calls
unfoldable pub table : Rule → ℕ → ℕ → List Call → Edges
table rule link store cs = (vault_at (played rule (start link store) cs).vaults 0).site.table

abbrev pub seated : List Change
seated = Add (edge 64 65) ∷ Add (edge 65 128) ∷ []

abbrev pub u2_joins_r0 : Call
u2_joins_r0 = Command 1 (Add (edge 2 64))

pub record Examples : Type 0 where
  -- u1 and u0 act; the full rule and limits of 1024 messages and 512 edges, unless said
  pub set_up : answers full_rule 1024 512 opened
      ≡ Ok 256 ∷ Ok 257 ∷ Ok 258 ∷ Ok 259 ∷ Ok 0 ∷ Ok 0 ∷ Ok 0 ∷ Ok 0 ∷ Ok 0 ∷ Ok 0 ∷ Ok 0 ∷ Ok 0 ∷ Ok 0 ∷ Ok 0 ∷ []
  pub seats_sent : shown full_rule 1024 512 chained Open ≡ seen (Ok 0) seated 2
  pub joins : shown full_rule 1024 512 opened u2_joins_r0 ≡ seen (Ok 0) (seated ++ (Add (edge 2 64) ∷ [])) 3
  pub joins_lower : shown full_rule 1024 512 opened (Command 1 (Add (edge 2 65))) ≡ seen (Ok 0) (seated ++ (Add (edge 2 65) ∷ [])) 3
  pub joins_lower_plain : shown plain_rule 1024 512 opened (Command 1 (Add (edge 2 65))) ≡ seen (Err Unauthorised) seated 2
  pub removal : shown full_rule 1024 512 opened (Command 1 (Remove (edge 2 64))) ≡ seen (Err Unauthorised) seated 2
  pub no_such_edge : shown full_rule 1024 512 opened (Command 1 (Add (edge 2 128))) ≡ seen (Err NoEdge) seated 2
  pub no_such_user : shown full_rule 1024 512 opened (Command 64 (Add (edge 2 64))) ≡ seen (Err NoUser) seated 2
  pub nested : shown full_rule 1024 512 opened (Command 0 (Add (edge 66 258))) ≡ seen (Ok 0) seated 2
  pub nested_plain : shown plain_rule 1024 512 opened (Command 0 (Add (edge 66 258))) ≡ seen (Err Unauthorised) seated 2
  pub nested_unchained : shown full_rule 1024 512 opened_unchained (Command 0 (Add (edge 66 258))) ≡ seen (Err Unauthorised) (Add (edge 65 128) ∷ []) 1
  pub delivered : table full_rule 1024 512 (opened ++ (u2_joins_r0 ∷ Deliver 0 ∷ Deliver 0 ∷ Deliver 0 ∷ [])) ≡ edge 2 64 ∷ edge 64 65 ∷ edge 65 128 ∷ []
  pub nothing_left : shown full_rule 1024 512 (opened ++ (u2_joins_r0 ∷ Deliver 0 ∷ Deliver 0 ∷ Deliver 0 ∷ [])) (Deliver 0) ≡ seen (Err (NothingWaiting 0)) [] 3
  pub link_of_5 : shown full_rule 5 512 opened u2_joins_r0 ≡ seen (Err (LinkRoom 0)) seated 2
  pub link_of_6 : shown full_rule 6 512 opened u2_joins_r0 ≡ seen (Ok 0) (seated ++ (Add (edge 2 64) ∷ [])) 3
  pub withdrawn : shown full_rule 6 512 (opened ++ (u2_joins_r0 ∷ [])) (Command 0 (Remove (edge 65 128)))
      ≡ seen (Ok 0) (seated ++ (Add (edge 2 64) ∷ Remove (edge 65 128) ∷ [])) 2
  pub store_of_2 : shown full_rule 1024 2 opened u2_joins_r0 ≡ seen (Err (StoreRoom 0)) seated 2
  pub store_of_3 : shown full_rule 1024 3 opened u2_joins_r0 ≡ seen (Ok 0) (seated ++ (Add (edge 2 64) ∷ [])) 3

-- Two vaults

-- 256 is +(u2,r0), 257 is -(u2,r0), 258 is +(r2,r0), 259 is +(r0,p1), then 256 again, 260 is +(r0,256); vault 0 keeps p0 and p2,
-- vault 1 keeps p1
abbrev pub naming_two : List Call
naming_two =
    Declare (Add (edge 2 64)) ∷ Declare (Remove (edge 2 64)) ∷ Declare (Add (edge 66 64)) ∷ Declare (Add (edge 64 129)) ∷ Declare (Add (edge 2 64))
    ∷ Declare (Add (edge 64 256)) ∷ Keep 0 128 ∷ Keep 0 130 ∷ Keep 1 129 ∷ EndNaming ∷ []

-- u0 is in r6, which has them all; r3 is above r0, and r0 above r1, which has p0; u3 is in r2
abbrev pub seats_two : List Call
seats_two =
    Seat (edge 0 70) ∷ Seat (edge 70 256) ∷ Seat (edge 70 257) ∷ Seat (edge 70 258) ∷ Seat (edge 70 259) ∷ Seat (edge 70 260)
    ∷ Seat (edge 65 128) ∷ Seat (edge 64 65) ∷ Seat (edge 67 64) ∷ Seat (edge 3 66) ∷ []

abbrev pub seated_two : List Call
seated_two = naming_two ++ seats_two

abbrev pub opened_two : List Call
opened_two = seated_two ++ (Open ∷ [])

-- u0 adds an edge, or removes it
abbrev pub adds : ℕ → ℕ → Call
adds a b = Command 0 (Add (edge a b))

abbrev pub removes : ℕ → ℕ → Call
removes a b = Command 0 (Remove (edge a b))

-- r0 has p1 too, so that what leads to r0 concerns both vaults
abbrev pub shared : List Call
shared = opened_two ++ (adds 64 129 ∷ [])

-- the limits of vault 0, then those of vault 1: of the link, of the store
abbrev pub start_two : ℕ → ℕ → ℕ → ℕ → Installation
start_two link_0 store_0 link_1 store_1 = begin (record { link = link_0; store = store_0 } ∷ record { link = link_1; store = store_1 } ∷ [])

abbrev pub wide : Installation
wide = start_two 99 99 99 99

-- a call after others, as it is seen at vault 0 or vault 1
unfoldable pub shown_at : ℕ → Installation → List Call → Call → Seen
shown_at i w cs c = seen_of i (outcome full_rule (played full_rule w cs) c)

unfoldable pub answers_two : List Call → List Answer
answers_two cs = map (λ (r : CallRecord). r.answer) (records full_rule wide cs)

unfoldable pub table_two : List Call → Edges
table_two cs = (vault_at (played full_rule wide cs).vaults 0).site.table

-- what the seats send to vault 0; then an answer with nothing more sent there, and an addition that is accepted and sent
abbrev pub chain : List Change
chain = Add (edge 65 128) ∷ Add (edge 64 65) ∷ Add (edge 67 64) ∷ []

abbrev pub silent : Answer → Seen
silent a = seen a chain 3

abbrev pub sent : ℕ → ℕ → Seen
sent a b = seen (Ok 0) (chain ++ (Add (edge a b) ∷ [])) 4

-- everything that waits at vault 0 is delivered
abbrev pub three_deliveries : List Call
three_deliveries = Deliver 0 ∷ Deliver 0 ∷ Deliver 0 ∷ []

pub record TwoVaultExamples : Type 0 where
  -- seen at vault 0, with limits of 99, unless said

  -- declaring again answers the number that there is, and the next one follows the last
  pub declared_again : answers_two naming_two ≡ Ok 256 ∷ Ok 257 ∷ Ok 258 ∷ Ok 259 ∷ Ok 256 ∷ Ok 260 ∷ Ok 0 ∷ Ok 0 ∷ Ok 0 ∷ Ok 0 ∷ []
  pub vault_before_privilege : shown_at 0 wide [] (Keep 2 64) ≡ seen (Err (NoVault 2)) [] 0
  -- each vault hears of its own privileges only, and of no edge twice
  pub seats_to_0 : shown_at 0 wide seated_two Open ≡ silent (Ok 0)
  pub seats_to_1 : shown_at 1 wide seated_two Open ≡ seen (Ok 0) [] 0
  pub second_kept : shown_at 0 wide seated_two (Seat (edge 68 130)) ≡ sent 68 130
  pub told_already : shown_at 0 wide seated_two (Seat (edge 64 128)) ≡ sent 64 128
  pub held_already : shown_at 0 wide shared (adds 64 129) ≡ silent (Ok 0)
  pub absent_already : shown_at 0 wide opened_two (removes 2 64) ≡ silent (Ok 0)
  -- the privilege ordering: r0 is above r1, u3 in r2, r3 above r0
  pub narrower : shown_at 0 wide opened_two (adds 3 64) ≡ sent 3 64
  pub narrower_elsewhere : shown_at 0 wide opened_two (adds 1 64) ≡ silent (Err Unauthorised)
  pub narrower_to_privilege : shown_at 0 wide opened_two (adds 66 128) ≡ silent (Err Unauthorised)
  pub narrower_removal : shown_at 0 wide opened_two (removes 2 65) ≡ silent (Err Unauthorised)
  pub grants : shown_at 1 wide opened_two (adds 67 129) ≡ seen (Ok 0) (Add (edge 67 129) ∷ []) 1
  pub grants_another : shown_at 0 wide opened_two (adds 67 130) ≡ silent (Err Unauthorised)
  pub delegates : shown_at 0 wide opened_two (adds 67 256) ≡ silent (Ok 0)
  -- no user has a privilege, and the user is asked for before the edge
  pub user_with_privilege : shown_at 0 wide opened_two (adds 2 256) ≡ silent (Err NoEdge)
  pub user_before_edge : shown_at 0 wide opened_two (Command 64 (Add (edge 2 128))) ≡ silent (Err NoUser)
  -- room: all stores before all links, and the lowest vault first
  pub store_of_vault_1 : shown_at 1 (start_two 99 99 99 0) opened_two (adds 67 129) ≡ seen (Err (StoreRoom 1)) [] 0
  pub link_of_vault_1 : shown_at 1 (start_two 99 99 1 99) opened_two (adds 67 129) ≡ seen (Err (LinkRoom 1)) [] 0
  pub lowest_store : shown_at 0 (start_two 99 3 99 2) shared (adds 2 64) ≡ silent (Err (StoreRoom 0))
  pub lowest_link : shown_at 0 (start_two 6 99 4 99) shared (adds 2 64) ≡ silent (Err (LinkRoom 0))
  pub stores_before_links : shown_at 0 (start_two 6 99 99 2) shared (adds 2 64) ≡ silent (Err (StoreRoom 1))
  -- a store's room is counted by what is told, be it delivered or not, and a withdrawal gives it back at once
  pub store_room_delivered : shown_at 0 (start_two 99 3 99 99) (opened_two ++ three_deliveries) (adds 2 64)
      ≡ seen (Err (StoreRoom 0)) [] 3
  pub store_room_withdrawn : shown_at 0 (start_two 99 4 99 99) (opened_two ++ (adds 2 64 ∷ (three_deliveries ++ (Deliver 0 ∷ removes 2 64 ∷ [])))) (adds 2 64)
      ≡ seen (Ok 0) (Remove (edge 2 64) ∷ Add (edge 2 64) ∷ []) 4
  -- applying performs and does not strike, delivering strikes, in seating too; other vaults stay as they are
  pub applies : shown_at 0 wide seated_two (Apply 0) ≡ silent (Ok 0)
  pub applied : table_two (seated_two ++ (Apply 0 ∷ Apply 0 ∷ [])) ≡ edge 65 128 ∷ []
  pub delivers : shown_at 0 wide seated_two (Deliver 0) ≡ seen (Ok 0) (Add (edge 64 65) ∷ Add (edge 67 64) ∷ []) 3
  pub delivers_at_1 : shown_at 1 wide shared (Deliver 1) ≡ seen (Ok 0) (Add (edge 67 64) ∷ []) 2
  pub delivers_only_at_1 : shown_at 0 wide shared (Deliver 1) ≡ silent (Ok 0)
  pub nothing_at_1 : shown_at 0 wide opened_two (Deliver 1) ≡ silent (Err (NothingWaiting 1))
  pub no_vault_2 : shown_at 0 wide opened_two (Deliver 2) ≡ silent (Err (NoVault 2))
  -- calls that a stage does not have: in naming, in seating, in service
  pub naming_deliver : shown_at 0 wide [] (Deliver 0) ≡ seen (Err WrongStage) [] 0
  pub naming_apply : shown_at 0 wide [] (Apply 0) ≡ seen (Err WrongStage) [] 0
  pub naming_seat : shown_at 0 wide [] (Seat (edge 0 64)) ≡ seen (Err WrongStage) [] 0
  pub seating_declare : shown_at 0 wide seated_two (Declare (Add (edge 5 64))) ≡ silent (Err WrongStage)
  pub seating_keep : shown_at 0 wide seated_two (Keep 0 129) ≡ silent (Err WrongStage)
  pub seating_end : shown_at 0 wide seated_two EndNaming ≡ silent (Err WrongStage)
  pub seating_command : shown_at 0 wide seated_two (adds 2 64) ≡ silent (Err WrongStage)
  pub service_declare : shown_at 0 wide opened_two (Declare (Add (edge 5 64))) ≡ silent (Err WrongStage)
  pub service_seat : shown_at 0 wide opened_two (Seat (edge 2 64)) ≡ silent (Err WrongStage)
  pub service_open : shown_at 0 wide opened_two Open ≡ silent (Err WrongStage)

-- The centre's own limits, with no vault

-- n calls
abbrev pub times : ℕ → (ℕ → Call) → List Call
times zero f = []
times (suc n) f = f n ∷ times n f

-- privileges of depth 1 to 7, each around the one before
abbrev pub deep_7 : List Call
deep_7 = Declare (Add (edge 2 64)) ∷ Declare (Add (edge 66 256)) ∷ Declare (Add (edge 66 257)) ∷ Declare (Add (edge 66 258)) ∷ Declare (Add (edge 66 259))
    ∷ Declare (Add (edge 66 260)) ∷ Declare (Add (edge 66 261)) ∷ []

abbrev pub names_127 : List Call
names_127 = times 64 (λ n. Declare (Add (edge n 64))) ++ times 63 (λ n. Declare (Add (edge n 65)))

-- r0, r1 and r2 have all 128 user privileges, r3 has all but one
abbrev pub edges_511 : List Call
edges_511 =
    EndNaming
    ∷ (times 127 (λ n. Seat (edge 67 (n + 128))) ++ (times 128 (λ n. Seat (edge 66 (n + 128)))
    ++ (times 128 (λ n. Seat (edge 65 (n + 128))) ++ times 128 (λ n. Seat (edge 64 (n + 128))))))

-- a call after others
unfoldable pub answer_to : List Call → List Call → Call → Answer
answer_to cs more c = (outcome full_rule (played full_rule (begin []) (cs ++ more)) c).answer

pub record LimitExamples : Type 0 where
  -- nested 8 deep and no deeper
  pub depth_8 : answer_to deep_7 [] (Declare (Add (edge 66 262))) ≡ Ok 263
  pub depth_9 : answer_to deep_7 (Declare (Add (edge 66 262)) ∷ []) (Declare (Add (edge 66 263))) ≡ Err TooDeep
  -- 128 declared privileges and no more; one that is declared has its number still
  pub names_128 : answer_to names_127 [] (Declare (Add (edge 63 65))) ≡ Ok 383
  pub names_129 : answer_to names_127 (Declare (Add (edge 63 65)) ∷ []) (Declare (Add (edge 63 66))) ≡ Err NamesFull
  pub names_again : answer_to names_127 (Declare (Add (edge 63 65)) ∷ []) (Declare (Add (edge 63 64))) ≡ Ok 256
  -- 512 edges and no more; one that is held is accepted still
  pub edges_512 : answer_to edges_511 [] (Seat (edge 67 255)) ≡ Ok 0
  pub edges_513 : answer_to edges_511 (Seat (edge 67 255) ∷ []) (Seat (edge 68 255)) ≡ Err PolicyFull
  pub edges_again : answer_to edges_511 (Seat (edge 67 255) ∷ []) (Seat (edge 67 255)) ≡ Ok 0
