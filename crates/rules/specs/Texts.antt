-- What the refusals of the centre and of a work list say.
use Rattle.std.specs.Prelude.{ℕ, List, codes}
use Rattle.rules.specs.declared.fault.CentreFault.{CentreFault}
use Rattle.rules.specs.declared.fault.CentreFault.TheVariants as centre
use Rattle.rules.specs.declared.fault.WorkFault.{WorkFault}
use Rattle.rules.specs.declared.fault.WorkFault.TheVariants as work
use Rattle.refusals.specs.Texts.{link_text, store_text}

abbrev pub centre_text : CentreFault → List ℕ
centre_text centre.NoUser = codes "the user is not below 64"
centre_text centre.NoEdge = codes "the pair is no edge, or an administrative privilege in it is not declared"
centre_text centre.Unauthorised = codes "the user reaches no declared privilege that the rule puts over this one"
centre_text centre.PolicyFull = codes "the policy has 512 edges"
centre_text (centre.StoreRoom v) = codes "a store would not have room"
centre_text (centre.LinkRoom v) = codes "a link would not have room"
centre_text centre.TooDeep = codes "the privilege is nested deeper than 8"
centre_text centre.NamesFull = codes "128 privileges are declared"
centre_text (centre.NoVault v) = codes "there is no vault of that number"
centre_text centre.NoPrivilege = codes "it is no user privilege"
centre_text (centre.NothingWaiting v) = codes "nothing waits"
centre_text centre.WrongStage = codes "the stage has no such call"
centre_text (centre.Link v f) = link_text f
centre_text (centre.Store v f) = store_text f

abbrev pub work_text : WorkFault → List ℕ
work_text (work.Command r f) = centre_text f
