pub mod RatedText
