-- Replies that speak of the last build.
use Rattle.std.proofs.Common.{◌≡◌, ℕ, List, [], Option, Some, None, option_map, refl, ap}
use Rattle.al_base.specs.declared.refusal.Refusal.TheVariants.{NotBuilt}
use Rattle.al_session_served.specs.declared.subject.ReportKind.{ReportKind}
use Rattle.al_session_served.specs.Builds.{BuildResult}
use Rattle.al_session_served.specs.Library.{LastBuild, last_gave}
use Rattle.al_session_served.specs.Replies.{refused, build_reply, report_reply, report_of, build_reply_of}

pub build_reply_some : (built : Option LastBuild) (b : List ℕ × BuildResult) → Some b ≡ option_map last_gave built → build_reply_of built ≡ build_reply b.0 b.1
build_reply_some None b e = cc
build_reply_some (Some last) b e = let same : last_gave last ≡ b = cc in ap (λ (x : List ℕ × BuildResult). build_reply x.0 x.1) same

pub build_reply_none : (built : Option LastBuild) → None ≡ option_map last_gave built → build_reply_of built ≡ []
build_reply_none None e = refl
build_reply_none (Some last) e = cc

pub report_some : (subject : ReportKind) (built : Option LastBuild) (b : List ℕ × BuildResult) → Some b ≡ option_map last_gave built → report_of subject built ≡ report_reply subject b.1
report_some subject None b e = cc
report_some subject (Some last) b e = let same : last_gave last ≡ b = cc in ap (λ (x : List ℕ × BuildResult). report_reply subject x.1) same

pub report_none : (subject : ReportKind) (built : Option LastBuild) → None ≡ option_map last_gave built → report_of subject built ≡ refused NotBuilt
report_none subject None e = refl
report_none subject (Some last) e = cc
