-- The bytes of a reply of the code, which shows the library as it is after the command.
use Rattle.std.specs.Prelude.{ℕ, List, [], Some, map}
use Rattle.al_base.specs.Batch.{key_of}
use Rattle.al_session_served.specs.declared.reply.Reply.{Reply}
use Rattle.al_session_served.specs.declared.reply.Reply.TheVariants.{Nothing, Done, Refused, LastBuild, Report, Units, Obsolete, RunReport}
use Rattle.al_session_served.specs.Builds.{run_model}
use Rattle.al_session_served.specs.Library.{State, file_unit_of}
use Rattle.al_session_served.specs.Replies.{ok, refused, run_reply, units_reply, obsolete_reply, report_of, build_reply_of}

abbrev pub reply_model : State → Reply → List ℕ
reply_model state Nothing = []
reply_model state Done = ok
reply_model state (Refused refusal) = refused refusal
reply_model state LastBuild = build_reply_of state.built
reply_model state (Report subject) = report_of subject state.built
reply_model state (Units files) = units_reply (map file_unit_of files.items)
reply_model state (Obsolete units) = obsolete_reply (Some (map key_of units.items))
reply_model state (RunReport ran) = run_reply (run_model ran)
